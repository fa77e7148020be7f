use Rattle.std.proofs.lemmas.Result.{err_from_is_err_and}
use Rattle.c_parser.proofs.GlobalsTaken.{valued_taken, unvalued_taken, no_value, no_dimensions}
use Rattle.c_parser.proofs.globals.global.Goals as goal

pub returns-in_err-value-in-Some : goal.returns-in_err-value-in-Some
returns-in_err-value-in-Some c =
    let p = err_from_is_err_and c.from_residual.result c.from_residual.ensures.1 in
    rw (p.1, p.2) (no_value c.args.ty c.args.from c.args.name c.args.at c.in-Some.field-0 c.args.cursor.now c.may.new.self c.expr.new.cursor c.in_err-value-in-Some.field-0.0 c.in-Some.ensures.taken c.in_err-value-in-Some.ensures.taken)

pub returns-in_err-dims-in-None : goal.returns-in_err-dims-in-None
returns-in_err-dims-in-None c =
    let p = err_from_is_err_and c.from_residual-in_err-dims-in-None.result c.from_residual-in_err-dims-in-None.ensures.1 in
    rw (p.1, p.2) (no_dimensions c.args.ty c.args.from c.args.name c.args.at c.args.cursor.now c.may.new.self c.subscripts.new.cursor c.in_err-dims-in-None.field-0.0 c.in-None.ensures.taken c.in_err-dims-in-None.ensures)

pub returns-in_ok-value-in-Some : goal.returns-in_ok-value-in-Some
returns-in_ok-value-in-Some c = valued_taken c.args.ty c.args.from c.args.name c.args.at c.in-Some.field-0 c.in_ok-value-in-Some.field-0-1 c.args.cursor.now c.may.new.self c.expr.new.cursor c.in_ok-value-in-Some.value c.valued.result c.in-Some.ensures.taken c.in_ok-value-in-Some.ensures.taken c.valued.ensures

pub returns-in_ok-dims-in-None : goal.returns-in_ok-dims-in-None
returns-in_ok-dims-in-None c = unvalued_taken c.args.ty c.args.from c.args.name c.args.at c.in_ok-dims-in-None.field-0-1 c.args.cursor.now c.may.new.self c.subscripts.new.cursor c.in_ok-dims-in-None.dims c.unvalued.result c.in-None.ensures.taken c.in_ok-dims-in-None.ensures c.unvalued.ensures
