use Rattle.std.proofs.lemmas.Result.{err_from_is_err_and}
use Rattle.c_parser.proofs.FunctionsTaken.{main_taken, no_main_body}
use Rattle.c_parser.proofs.functions.main_function.Goals as goal

pub returns-in_err-main_head : goal.returns-in_err-main_head
returns-in_err-main_head c =
    let p = err_from_is_err_and c.from_residual.result c.from_residual.ensures.1 in
    rw (p.1, p.2) (λ f. c.in_err-main_head.ensures c.args.at f)

pub returns-in_err-body : goal.returns-in_err-body
returns-in_err-body c =
    let p = err_from_is_err_and c.from_residual-in_err-body.result c.from_residual-in_err-body.ensures.1 in
    rw (p.1, p.2) (no_main_body c.args.at c.in_ok-main_head.field-0 c.args.cursor.now c.main_head.new.cursor c.stmts_of_list.new.cursor c.in_err-body.field-0.0 c.in_ok-main_head.ensures c.in_err-body.ensures)

pub returns : goal.returns
returns c = main_taken c.args.at c.in_ok-body.last c.spanning.result c.in_ok-main_head.field-0 c.args.cursor.now c.main_head.new.cursor c.stmts_of_list.new.cursor c.in_ok-body.body c.main_item.result c.in_ok-main_head.ensures c.in_ok-body.ensures c.spanning.ensures c.main_item.ensures
