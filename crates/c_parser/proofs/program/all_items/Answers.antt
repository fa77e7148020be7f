use Rattle.std.proofs.lemmas.Result.{err_from_is_err_and}
use Rattle.c_parser.specs.Items.{items_of}
use Rattle.c_parser.specs.Openings.{opened}
use Rattle.c_parser.proofs.TopsTaken.{open_is, closed_is, no_tops, more_tops, tops_shrink, tops_end, unopened, unread}
use Rattle.c_parser.proofs.program.all_items.Goals as goal

pub loop-items-init : goal.loop-items-init
loop-items-init c = no_tops c.args.cursor.now c.no_items-items.result c.no_items-items.ensures

pub returns-in_err-opening : goal.returns-in_err-opening
returns-in_err-opening c =
    let p = err_from_is_err_and c.from_residual.result c.from_residual.ensures.1 in
    rw (p.1, p.2) (unopened c.args.cursor.now c.loop-items.cursor c.take_opening.new.cursor c.take_opening.new.cursor c.loop-items.items c.in_err-opening.field-0.0 c.loop-items.invariant c.in_err-opening.ensures)

pub returns-in_err-all : goal.returns-in_err-all
returns-in_err-all c =
    let p = err_from_is_err_and c.from_residual-in_err-all.result c.from_residual-in_err-all.ensures.1 in
    rw (p.1, p.2) (unread c.in_ok-opening.opening c.in_ok-opening.at c.args.cursor.now c.loop-items.cursor c.take_opening.new.cursor c.take_tops.new.cursor c.take_tops.new.cursor c.loop-items.items c.in_err-all.field-0.0 c.loop-items.invariant c.in_ok-opening.ensures c.in_err-all.ensures)

pub loop-items-smaller : goal.loop-items-smaller
loop-items-smaller c = tops_shrink c.in_ok-opening.opening c.in_ok-opening.at (items_of c.loop-items.items) c.loop-items.cursor c.take_opening.new.cursor c.take_tops.new.cursor c.in-Open.all c.in_ok-opening.ensures (open_is (opened c.in_ok-opening.opening c.in_ok-opening.at) (items_of c.loop-items.items) c.take_opening.new.cursor c.take_tops.new.cursor c.in_ok-all.field-0 c.in-Open.all c.in-Open.is c.in_ok-all.ensures)

pub loop-items-preserved : goal.loop-items-preserved
loop-items-preserved c = more_tops c.in_ok-opening.opening c.in_ok-opening.at c.args.cursor.now c.loop-items.cursor c.take_opening.new.cursor c.take_tops.new.cursor c.loop-items.items c.in-Open.all c.loop-items.invariant c.in_ok-opening.ensures (open_is (opened c.in_ok-opening.opening c.in_ok-opening.at) (items_of c.loop-items.items) c.take_opening.new.cursor c.take_tops.new.cursor c.in_ok-all.field-0 c.in-Open.all c.in-Open.is c.in_ok-all.ensures)

pub returns-in-Closed : goal.returns-in-Closed
returns-in-Closed c = tops_end c.in_ok-opening.opening c.in_ok-opening.at c.args.cursor.now c.loop-items.cursor c.take_opening.new.cursor c.take_tops.new.cursor c.loop-items.items c.in-Closed.all c.loop-items.invariant c.in_ok-opening.ensures (closed_is (opened c.in_ok-opening.opening c.in_ok-opening.at) (items_of c.loop-items.items) c.take_opening.new.cursor c.take_tops.new.cursor c.in_ok-all.field-0 c.in-Closed.all c.in-Closed.is c.in_ok-all.ensures)
