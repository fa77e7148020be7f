use Rattle.std.proofs.lemmas.Result.{err_from_is_err_and}
use Rattle.c_parser.proofs.SimpleTaken.{fails_by}
use Rattle.c_grammar.specs.Goals.{after_target}
use Rattle.c_parser.proofs.SimplesTaken.{stmt_passed}
use Rattle.c_parser.proofs.statements.name_stmt.Goals as goal

pub returns-in-Some : goal.returns-in-Some
returns-in-Some c = stmt_passed _ _ c.args.cursor.now c.may.new.self c.call_stmt.new.cursor c.call_stmt.result (λ f. c.in-Some.ensures.taken _ _) c.call_stmt.ensures

pub returns-in_err-target-in-None : goal.returns-in_err-target-in-None
returns-in_err-target-in-None c =
    let p = err_from_is_err_and c.from_residual.result c.from_residual.ensures.1 in
    rw (p.1, p.2) (λ f. fails_by _ _ c.args.cursor.now c.may.new.self c.in_err-target-in-None.field-0.0 (λ o h. c.in-None.ensures.taken _ _ o h) (c.in_err-target-in-None.ensures (after_target f)))

pub returns-in_ok-target-in-None : goal.returns-in_ok-target-in-None
returns-in_ok-target-in-None c = stmt_passed _ _ c.args.cursor.now c.target.new.cursor c.target_stmt.new.cursor c.target_stmt.result (λ f o h. c.in-None.ensures.taken _ _ o (c.in_ok-target-in-None.ensures.2 (after_target f) o h)) (c.target_stmt.ensures c.in_ok-target-in-None.ensures.0 c.in_ok-target-in-None.ensures.1)
