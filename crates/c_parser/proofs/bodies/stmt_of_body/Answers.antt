use Rattle.std.proofs.Common.{◌++◌, ◌∷◌, [], length, subst, Ok, refl}
use Rattle.std.proofs.lemmas.Result.{err_from_is_err_and}
use Rattle.c_parser.specs.declared.owners.Frame.TheVariants as fr
use Rattle.c_parser.specs.Bodies.{IsBegun}
use Rattle.c_parser.proofs.Lists.{body_whole, body_in_body, no_body, lessens_ended, lessens_pushed}
use Rattle.c_parser.proofs.bodies.stmt_of_body.Goals as goal

pub returns-in_err-stmt-clause-steps : goal.returns-in_err-stmt-clause-steps
returns-in_err-stmt-clause-steps c =
    let p = err_from_is_err_and c.from_residual.result c.from_residual.ensures.1 in
    rw (p.1, p.2) (λ outer holder. no_body outer (outer ++ fr.Owner holder ∷ []) holder c.in_err-stmt.field-0.0 c.args.cursor.now c.begin.new.cursor c.begin.new.cursor c.requires c.in_err-stmt.ensures)

pub returns-in-Whole-clause-steps : goal.returns-in-Whole-clause-steps
returns-in-Whole-clause-steps c = λ outer holder. body_whole outer (outer ++ fr.Owner holder ∷ []) holder c.in-Whole.stmt c.in-Whole.last c.args.cursor.now c.begin.new.cursor c.requires (subst (λ z. IsBegun c.args.cursor.now (Ok z) c.begin.new.cursor) c.in-Whole.is c.in_ok-stmt.ensures) refl

pub returns-in-Whole-clause-lessens : goal.returns-in-Whole-clause-lessens
returns-in-Whole-clause-lessens c = λ outer holder m. lessens_ended outer (outer ++ fr.Owner holder ∷ []) (fr.Owner holder) (length c.begin.new.cursor) (length c.args.cursor.now) refl (subst (λ z. IsBegun c.args.cursor.now (Ok z) c.begin.new.cursor) c.in-Whole.is c.in_ok-stmt.ensures).3

pub returns-in-Opens-clause-steps : goal.returns-in-Opens-clause-steps
returns-in-Opens-clause-steps c = λ outer holder. body_in_body outer (outer ++ fr.Owner holder ∷ []) holder c.in-Opens.inner c.args.cursor.now c.begin.new.cursor c.requires (subst (λ z. IsBegun c.args.cursor.now (Ok z) c.begin.new.cursor) c.in-Opens.is c.in_ok-stmt.ensures) refl

pub returns-in-Opens-clause-lessens : goal.returns-in-Opens-clause-lessens
returns-in-Opens-clause-lessens c = λ outer holder m. lessens_pushed outer (outer ++ fr.Owner holder ∷ []) (fr.Owner holder) (length c.begin.new.cursor) (length c.args.cursor.now) refl (subst (λ z. IsBegun c.args.cursor.now (Ok z) c.begin.new.cursor) c.in-Opens.is c.in_ok-stmt.ensures).3
