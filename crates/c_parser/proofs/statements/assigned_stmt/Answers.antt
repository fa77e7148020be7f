use Rattle.std.proofs.Common.{sym, subst}
use Rattle.c_grammar.specs.Goals.{assigned}
use Rattle.c_parser.specs.Simple.{IsStmtTaken, set_goal}
use Rattle.c_parser.proofs.SimplesTaken.{stmt_passed}
use Rattle.c_parser.proofs.statements.assigned_stmt.Goals as goal

pub returns-in-Some : goal.returns-in-Some
returns-in-Some c = λ t q. subst (λ op. IsStmtTaken (λ f. assigned t c.args.at f op) c.args.cursor.now c.input_stmt.result c.input_stmt.new.cursor) (sym c.in-Plain.is) (stmt_passed _ _ c.args.cursor.now c.may.new.self c.input_stmt.new.cursor c.input_stmt.result (λ f. c.in-Some.ensures.taken _ _) (c.input_stmt.ensures t q))

pub returns-in-None : goal.returns-in-None
returns-in-None c = λ t q. subst (λ op. IsStmtTaken (λ f. assigned t c.args.at f op) c.args.cursor.now c.set_stmt.result c.set_stmt.new.cursor) (sym c.in-Plain.is) (stmt_passed _ _ c.args.cursor.now c.may.new.self c.set_stmt.new.cursor c.set_stmt.result (λ f. c.in-None.ensures.taken _ _) (subst (λ op. IsStmtTaken (set_goal t c.args.at op) c.may.new.self c.set_stmt.result c.set_stmt.new.cursor) c.in-Plain.is (c.set_stmt.ensures t q)))
