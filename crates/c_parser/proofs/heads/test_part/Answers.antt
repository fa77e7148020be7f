use Rattle.std.proofs.lemmas.Result.{err_from_is_err_and}
use Rattle.c_parser.proofs.SimpleTaken.{fails_by}
use Rattle.std.proofs.Common.{Some}
use Rattle.c_parser.proofs.HeadsTaken.{kept_test}
use Rattle.c_parser.proofs.heads.test_part.Goals as goal

pub returns-in_err-test-in-None : goal.returns-in_err-test-in-None
returns-in_err-test-in-None c =
    let p = err_from_is_err_and c.from_residual.result c.from_residual.ensures.1 in
    rw (p.1, p.2) (λ f. fails_by _ _ c.args.cursor.now c.may.new.self c.in_err-test-in-None.field-0.0 (λ o h. c.in-None.ensures.taken _ _ o h) (c.in_err-test-in-None.ensures.taken _))

pub returns-in_err-take-in-None : goal.returns-in_err-take-in-None
returns-in_err-take-in-None c =
    let p = err_from_is_err_and c.from_residual-in_err-take-in-None.result c.from_residual-in_err-take-in-None.ensures.1 in
    rw (p.1, p.2) (λ f. fails_by _ _ c.args.cursor.now c.expr.new.cursor c.in_err-take-in-None.field-0.0 (λ o h. c.in-None.ensures.taken _ _ o (c.in_ok-test-in-None.ensures.taken.2 _ o h)) (c.in_err-take-in-None.ensures _))

pub returns-in_ok-take-in-None : goal.returns-in_ok-take-in-None
returns-in_ok-take-in-None c = (Some c.in_ok-test-in-None.ensures.taken.0, kept_test c.in_ok-test-in-None.ensures.taken.0 c.in_ok-test-in-None.test c.some.result c.some.ensures c.in_ok-test-in-None.ensures.taken.1, λ f o h. c.in-None.ensures.taken _ _ o (c.in_ok-test-in-None.ensures.taken.2 _ o (c.in_ok-take-in-None.ensures _ o h)))
