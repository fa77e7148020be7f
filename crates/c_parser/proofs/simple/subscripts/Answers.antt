use Rattle.std.proofs.lemmas.Result.{err_from_is_err_and}
use Rattle.c_parser.proofs.SimpleTaken.{no_subscripts, more_subscripts, subscripts_shrink, subscripts_end, subscripts_go_on, no_subscript, subscript_open}
use Rattle.c_parser.proofs.simple.subscripts.Goals as goal

pub loop-last-init : goal.loop-last-init
loop-last-init c = no_subscripts c.args.at c.args.cursor.now c.no_exprs-subs.result c.no_exprs-subs.ensures

pub returns-in_err-sub : goal.returns-in_err-sub
returns-in_err-sub c =
    let p = err_from_is_err_and c.from_residual.result c.from_residual.ensures.1 in
    rw (p.1, p.2) (no_subscript c.args.at c.loop-last.last c.args.cursor.now c.loop-last.cursor c.opens_subscript.new.cursor c.expr.new.cursor c.expr.new.cursor c.loop-last.subs c.in_err-sub.field-0.0 c.loop-last.invariant c.loop-last-test.ensures c.in_err-sub.ensures.taken)

pub returns-in_err-last : goal.returns-in_err-last
returns-in_err-last c =
    let p = err_from_is_err_and c.from_residual-in_err-last.result c.from_residual-in_err-last.ensures.1 in
    rw (p.1, p.2) (subscript_open c.args.at c.loop-last.last c.in_ok-sub.field-0-1 c.args.cursor.now c.loop-last.cursor c.opens_subscript.new.cursor c.expr.new.cursor c.take.new.self c.take.new.self c.loop-last.subs c.in_ok-sub.sub c.in_err-last.field-0.0 c.loop-last.invariant c.loop-last-test.ensures c.in_ok-sub.ensures.taken c.in_err-last.ensures)

pub loop-last-smaller : goal.loop-last-smaller
loop-last-smaller c = subscripts_shrink c.in_ok-sub.field-0-1 c.in_ok-last.last c.loop-last.cursor c.opens_subscript.new.cursor c.expr.new.cursor c.take.new.self c.in_ok-sub.sub c.loop-last-test.ensures c.in_ok-sub.ensures.taken c.in_ok-last.ensures

pub loop-last-preserved : goal.loop-last-preserved
loop-last-preserved c = more_subscripts c.args.at c.loop-last.last c.in_ok-sub.field-0-1 c.in_ok-last.last c.args.cursor.now c.loop-last.cursor c.opens_subscript.new.cursor c.expr.new.cursor c.take.new.self c.loop-last.subs c.in_ok-subs.subs c.in_ok-sub.sub c.loop-last.invariant c.loop-last-test.ensures c.in_ok-sub.ensures.taken c.in_ok-last.ensures c.in_ok-subs.ensures

pub returns-in_err-stop : goal.returns-in_err-stop
returns-in_err-stop c =
    let p = err_from_is_err_and c.from_residual-in_err-stop.result c.from_residual-in_err-stop.ensures.1 in
    rw (p.1, p.2) (subscripts_go_on c.args.at c.loop-last.last c.args.cursor.now c.loop-last.cursor c.opens_subscript.new.cursor c.opens_subscript.new.cursor c.loop-last.subs c.in_err-stop.field-0.0 c.loop-last.invariant c.loop-last-test.ensures c.in_err-stop.ensures)

pub returns : goal.returns
returns c = subscripts_end c.args.at c.loop-last.last c.args.cursor.now c.loop-last.cursor c.opens_subscript.new.cursor c.loop-last.subs tt c.loop-last.invariant c.loop-last-test.ensures c.in_ok-stop.ensures
