use Rattle.std.proofs.lemmas.Result.{err_from_is_err_and}
use Rattle.c_parser.proofs.FunctionsTaken.{function_taken, no_function_body}
use Rattle.c_parser.proofs.functions.function.Goals as goal

pub returns-in_err-head : goal.returns-in_err-head
returns-in_err-head c =
    let p = err_from_is_err_and c.from_residual.result c.from_residual.ensures.1 in
    rw (p.1, p.2) (λ f. c.in_err-head.ensures c.args.at f)

pub returns-in_err-body : goal.returns-in_err-body
returns-in_err-body c =
    let p = err_from_is_err_and c.from_residual-in_err-body.result c.from_residual-in_err-body.ensures.1 in
    rw (p.1, p.2) (no_function_body c.args.at c.in_ok-head.head c.args.cursor.now c.function_head.new.cursor c.stmts_of_list.new.cursor c.in_err-body.field-0.0 c.in_ok-head.ensures c.in_err-body.ensures)

pub returns : goal.returns
returns c = function_taken c.args.at c.in_ok-body.last c.spanning.result c.in_ok-head.head c.args.cursor.now c.function_head.new.cursor c.stmts_of_list.new.cursor c.in_ok-body.body c.function_item.result c.in_ok-head.ensures c.in_ok-body.ensures c.spanning.ensures c.function_item.ensures
