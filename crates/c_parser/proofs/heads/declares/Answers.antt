use Rattle.std.proofs.lemmas.Result.{err_from_is_err_and}
use Rattle.c_parser.proofs.SimpleTaken.{fails_by}
use Rattle.std.proofs.Common.{Some}
use Rattle.c_tree.specs.Placed.{decl, a_stmt}
use Rattle.c_parser.proofs.HeadsTaken.{declared_part}
use Rattle.c_parser.proofs.heads.declares.Goals as goal

pub returns-in_err-name : goal.returns-in_err-name
returns-in_err-name c =
    let p = err_from_is_err_and c.from_residual.result c.from_residual.ensures.1 in
    rw (p.1, p.2) (λ f. c.in_err-name.ensures _)

pub returns-in_err-take : goal.returns-in_err-take
returns-in_err-take c =
    let p = err_from_is_err_and c.from_residual-in_err-take.result c.from_residual-in_err-take.ensures.1 in
    rw (p.1, p.2) (λ f. fails_by _ _ c.args.cursor.now c.name.new.cursor c.in_err-take.field-0.0 (λ o h. c.in_ok-name.ensures _ o h) (c.in_err-take.ensures _))

pub returns-in_err-value : goal.returns-in_err-value
returns-in_err-value c =
    let p = err_from_is_err_and c.from_residual-in_err-value.result c.from_residual-in_err-value.ensures.1 in
    rw (p.1, p.2) (λ f. fails_by _ _ c.args.cursor.now c.take.new.self c.in_err-value.field-0.0 (λ o h. c.in_ok-name.ensures _ o (c.in_ok-take.ensures _ o h)) (c.in_err-value.ensures.taken _))

pub returns-in_err-take-2 : goal.returns-in_err-take-2
returns-in_err-take-2 c =
    let p = err_from_is_err_and c.from_residual-in_err-take-2.result c.from_residual-in_err-take-2.ensures.1 in
    rw (p.1, p.2) (λ f. fails_by _ _ c.args.cursor.now c.expr.new.cursor c.in_err-take-2.field-0.0 (λ o h. c.in_ok-name.ensures _ o (c.in_ok-take.ensures _ o (c.in_ok-value.ensures.taken.2 _ o h))) (c.in_err-take-2.ensures _))

pub returns : goal.returns
returns c = (a_stmt (decl c.args.ty c.in_ok-name.name c.in_ok-name.name_at (Some c.in_ok-value.ensures.taken.0) (record { start = c.args.from; end = c.in_ok-value.last.end })), declared_part c.args.ty c.in_ok-name.name c.in_ok-name.name_at c.in_ok-value.ensures.taken.0 _ c.in_ok-value.value c.some.result c.declaration.result c.in_ok-boxed.field-0 c.some.ensures c.declaration.ensures c.in_ok-boxed.ensures c.in_ok-value.ensures.taken.1, λ f o h. c.in_ok-name.ensures _ o (c.in_ok-take.ensures _ o (c.in_ok-value.ensures.taken.2 _ o (c.in_ok-take-2.ensures _ o h))))
