use Rattle.std.proofs.lemmas.Result.{err_from_is_err_and}
use Rattle.c_parser.proofs.SimpleTaken.{fails_by}
use Rattle.std.proofs.Common.{refl}
use Rattle.c_parser.specs.Declarations.{valued}
use Rattle.c_parser.proofs.declarations.take_said.Goals as goal

pub returns-in_err-take-in-Some-may : goal.returns-in_err-take-in-Some-may
returns-in_err-take-in-Some-may c =
    let p = err_from_is_err_and c.from_residual.result c.from_residual.ensures.1 in
    rw (p.1, p.2) (λ ty from x f. fails_by _ _ c.args.cursor.now c.may-in-Some.new.self c.in_err-take-in-Some-may.field-0.0 (λ o h. c.in-Some.ensures.taken _ _ o (c.in-Some-may.ensures.taken _ _ o h)) (c.in_err-take-in-Some-may.ensures _))

pub returns-in_err-last-in-Some-may : goal.returns-in_err-last-in-Some-may
returns-in_err-last-in-Some-may c =
    let p = err_from_is_err_and c.from_residual-in_err-last-in-Some-may.result c.from_residual-in_err-last-in-Some-may.ensures.1 in
    rw (p.1, p.2) (λ ty from x f. fails_by _ _ c.args.cursor.now c.take.new.self c.in_err-last-in-Some-may.field-0.0 (λ o h. c.in-Some.ensures.taken _ _ o (c.in-Some-may.ensures.taken _ _ o (c.in_ok-take-in-Some-may.ensures _ o h))) (c.in_err-last-in-Some-may.ensures _))

pub returns-in_err-value-in-None-may : goal.returns-in_err-value-in-None-may
returns-in_err-value-in-None-may c =
    let p = err_from_is_err_and c.from_residual-in_err-value-in-None-may.result c.from_residual-in_err-value-in-None-may.ensures.1 in
    rw (p.1, p.2) (λ ty from x f. fails_by _ _ c.args.cursor.now c.may-in-Some.new.self c.in_err-value-in-None-may.field-0.0 (λ o h. c.in-Some.ensures.taken _ _ o (c.in-None-may.ensures.taken _ _ o h)) (c.in_err-value-in-None-may.ensures.taken _))

pub returns-in_ok-value-in-None-may : goal.returns-in_ok-value-in-None-may
returns-in_ok-value-in-None-may c = (valued c.in_ok-value-in-None-may.ensures.taken.0, (c.in_ok-value-in-None-may.ensures.taken.0, c.in_ok-value-in-None-may.ensures.taken.1, refl), λ ty from x f o h. c.in-Some.ensures.taken _ _ o (c.in-None-may.ensures.taken _ _ o (c.in_ok-value-in-None-may.ensures.taken.2 _ o h)))
