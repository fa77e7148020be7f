use Rattle.std.proofs.lemmas.Result.{err_from_is_err_and}
use Rattle.c_parser.proofs.SimpleTaken.{fails_by}
use Rattle.c_tree.specs.Placed.{no_exprs}
use Rattle.c_parser.proofs.statements.arguments.Goals as goal

pub returns-in_err-args-in-None : goal.returns-in_err-args-in-None
returns-in_err-args-in-None c =
    let p = err_from_is_err_and c.from_residual.result c.from_residual.ensures.1 in
    rw (p.1, p.2) (λ f. fails_by _ _ c.args.cursor.now c.may.new.self c.in_err-args-in-None.field-0.0 (λ o h. c.in-None.ensures.taken _ _ o h) (c.in_err-args-in-None.ensures _))

pub returns-in-Some : goal.returns-in-Some
returns-in-Some c = (no_exprs, c.no_exprs.ensures, λ f o h. c.in-Some.ensures.taken _ _ o h)
