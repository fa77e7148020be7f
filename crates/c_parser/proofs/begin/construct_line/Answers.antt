use Rattle.std.proofs.lemmas.Result.{err_from_is_err_and}
use Rattle.c_parser.proofs.SimpleTaken.{fails_by}
use Rattle.c_parser.proofs.begin.construct_line.Goals as goal

pub returns-in_err-take : goal.returns-in_err-take
returns-in_err-take c =
    let p = err_from_is_err_and c.from_residual.result c.from_residual.ensures.1 in
    rw (p.1, p.2) (λ f. c.in_err-take.ensures _)

pub returns-in_err-take-2 : goal.returns-in_err-take-2
returns-in_err-take-2 c =
    let p = err_from_is_err_and c.from_residual-in_err-take-2.result c.from_residual-in_err-take-2.ensures.1 in
    rw (p.1, p.2) (λ f. fails_by _ _ c.args.cursor.now c.take.new.self c.in_err-take-2.field-0.0 (λ o h. c.in_ok-take.ensures _ o h) (c.in_err-take-2.ensures _))

pub returns-in_err-directive : goal.returns-in_err-directive
returns-in_err-directive c =
    let p = err_from_is_err_and c.from_residual-in_err-directive.result c.from_residual-in_err-directive.ensures.1 in
    rw (p.1, p.2) (λ f. fails_by _ _ c.args.cursor.now c.take-2.new.self c.in_err-directive.field-0.0 (λ o h. c.in_ok-take.ensures _ o (c.in_ok-take-2.ensures _ o h)) (c.in_err-directive.ensures f))

pub returns-in_err-take-3 : goal.returns-in_err-take-3
returns-in_err-take-3 c =
    let p = err_from_is_err_and c.from_residual-in_err-take-3.result c.from_residual-in_err-take-3.ensures.1 in
    rw (p.1, p.2) (λ f. fails_by _ _ c.args.cursor.now c.directive.new.cursor c.in_err-take-3.field-0.0 (λ o h. c.in_ok-take.ensures _ o (c.in_ok-take-2.ensures _ o (c.in_ok-directive.ensures.2 f o h))) (c.in_err-take-3.ensures _))
