use Rattle.std.proofs.lemmas.Result.{err_from_is_err_and}
use Rattle.c_parser.proofs.SimpleTaken.{none_listed, more_listed, listed_end, listed_open, none_read_more, listed_shrinks}
use Rattle.c_parser.proofs.simple.listed.Goals as goal

pub loop-exprs-init : goal.loop-exprs-init
loop-exprs-init c = none_listed c.args.cursor.now c.no_exprs-exprs.result c.no_exprs-exprs.ensures

pub returns-in_err-value : goal.returns-in_err-value
returns-in_err-value c =
    let p = err_from_is_err_and c.from_residual.result c.from_residual.ensures.1 in
    rw (p.1, p.2) (none_read_more c.args.cursor.now c.loop-exprs.cursor c.expr.new.cursor c.expr.new.cursor c.loop-exprs.exprs c.in_err-value.field-0.0 c.in_err-value.ensures.ended c.loop-exprs.invariant c.in_err-value.ensures.taken)

pub loop-exprs-smaller : goal.loop-exprs-smaller
loop-exprs-smaller c = listed_shrinks c.in_ok-value.field-0-1 c.loop-exprs.cursor c.expr.new.cursor c.may.new.self c.in_ok-value.value c.in_ok-value.ensures.taken c.in-Some.ensures.shorter

pub loop-exprs-preserved : goal.loop-exprs-preserved
loop-exprs-preserved c = more_listed c.in_ok-value.field-0-1 c.in-Some.field-0 c.args.cursor.now c.loop-exprs.cursor c.expr.new.cursor c.may.new.self c.loop-exprs.exprs c.in_ok-exprs.exprs c.in_ok-value.value c.in_ok-value.ensures.ended c.loop-exprs.invariant c.in_ok-value.ensures.taken c.in_ok-exprs.ensures c.in-Some.ensures.taken

pub returns-in_err-last-in-None : goal.returns-in_err-last-in-None
returns-in_err-last-in-None c =
    let p = err_from_is_err_and c.from_residual-in_err-last-in-None.result c.from_residual-in_err-last-in-None.ensures.1 in
    rw (p.1, p.2) (listed_open c.in_ok-value.field-0-1 c.args.cursor.now c.loop-exprs.cursor c.expr.new.cursor c.may.new.self c.take.new.self c.take.new.self c.loop-exprs.exprs c.in_ok-value.value c.in_err-last-in-None.field-0.0 c.in_ok-value.ensures.ended c.loop-exprs.invariant c.in_ok-value.ensures.taken c.in-None.ensures.taken c.in_err-last-in-None.ensures)

pub returns-in-None : goal.returns-in-None
returns-in-None c = listed_end c.in_ok-value.field-0-1 c.in_ok-last-in-None.last c.args.cursor.now c.loop-exprs.cursor c.expr.new.cursor c.may.new.self c.take.new.self c.loop-exprs.exprs c.in_ok-exprs.exprs c.in_ok-value.value c.in_ok-value.ensures.ended c.loop-exprs.invariant c.in_ok-value.ensures.taken c.in_ok-exprs.ensures c.in-None.ensures.taken c.in_ok-last-in-None.ensures
