use Rattle.std.proofs.lemmas.Result.{err_from_is_err_and}
use Rattle.c_parser.proofs.FunctionHeadsTaken.{int_taken, long_taken, long_untaken, no_type}
use Rattle.c_parser.proofs.function_heads.param_type.Goals as goal

pub returns-in-Int : goal.returns-in-Int
returns-in-Int c = int_taken c.first.result.now c.args.cursor.now c.advance.new.self c.terminal_of.result c.beginning_of.result c.first.ensures.first c.advance.ensures c.terminal_of.ensures c.beginning_of.ensures c.in-Int.is

pub returns-in_err-long_rest-in-Long : goal.returns-in_err-long_rest-in-Long
returns-in_err-long_rest-in-Long c =
    let p = err_from_is_err_and c.from_residual.result c.from_residual.ensures.1 in
    rw (p.1, p.2) (long_untaken c.first.result.now c.args.cursor.now c.advance-in-Long.new.self c.long_rest.new.cursor c.terminal_of.result c.beginning_of.result c.in_err-long_rest-in-Long.field-0.0 c.first.ensures.first c.advance-in-Long.ensures c.terminal_of.ensures c.beginning_of.ensures c.in-Long.is c.in_err-long_rest-in-Long.ensures)

pub returns-in_ok-long_rest-in-Long : goal.returns-in_ok-long_rest-in-Long
returns-in_ok-long_rest-in-Long c = long_taken c.first.result.now c.args.cursor.now c.advance-in-Long.new.self c.long_rest.new.cursor c.terminal_of.result c.beginning_of.result c.in_ok-long_rest-in-Long.field-0 c.first.ensures.first c.advance-in-Long.ensures c.terminal_of.ensures c.beginning_of.ensures c.in-Long.is c.in_ok-long_rest-in-Long.ensures

pub returns-in_default : goal.returns-in_default
returns-in_default c = no_type c.first.result.now c.args.cursor.now c.args.cursor.now c.terminal_of.result c.beginning_of.result c.blamed.result c.first.ensures.first c.terminal_of.ensures c.beginning_of.ensures c.in_default.not-Int c.in_default.not-Long c.blamed.ensures
