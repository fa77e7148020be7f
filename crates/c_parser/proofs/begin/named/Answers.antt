use Rattle.std.proofs.lemmas.Result.{err_from_is_err_and}
use Rattle.c_grammar.specs.Goals.{name_goal}
use Rattle.c_parser.proofs.SimplesTaken.{stmt_passed}
use Rattle.c_parser.proofs.begin.named.Goals as goal

pub returns-in_err-name : goal.returns-in_err-name
returns-in_err-name c =
    let p = err_from_is_err_and c.from_residual.result c.from_residual.ensures.1 in
    rw (p.1, p.2) (λ f. c.in_err-name.ensures _)

pub returns : goal.returns
returns c = stmt_passed _ _ c.args.cursor.now c.name.new.cursor c.name_stmt.new.cursor c.name_stmt.result (λ f. c.in_ok-name.ensures (λ x a. name_goal x a f)) c.name_stmt.ensures
