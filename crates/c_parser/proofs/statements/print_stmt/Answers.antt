use Rattle.std.proofs.lemmas.Result.{err_from_is_err_and}
use Rattle.c_parser.proofs.SimpleTaken.{fails_by}
use Rattle.c_tree.specs.Placed.{print}
use Rattle.pragma_grammar.specs.Symbols.{spanning}
use Rattle.c_parser.proofs.Built.{built_print}
use Rattle.c_parser.proofs.statements.print_stmt.Goals as goal

pub returns-in_err-take : goal.returns-in_err-take
returns-in_err-take c =
    let p = err_from_is_err_and c.from_residual.result c.from_residual.ensures.1 in
    rw (p.1, p.2) (λ f. c.in_err-take.ensures _)

pub returns-in_err-value : goal.returns-in_err-value
returns-in_err-value c =
    let p = err_from_is_err_and c.from_residual-in_err-value.result c.from_residual-in_err-value.ensures.1 in
    rw (p.1, p.2) (λ f. fails_by _ _ c.args.cursor.now c.take.new.self c.in_err-value.field-0.0 (λ o h. c.in_ok-take.ensures _ o h) (c.in_err-value.ensures.taken _))

pub returns-in_err-take-2 : goal.returns-in_err-take-2
returns-in_err-take-2 c =
    let p = err_from_is_err_and c.from_residual-in_err-take-2.result c.from_residual-in_err-take-2.ensures.1 in
    rw (p.1, p.2) (λ f. fails_by _ _ c.args.cursor.now c.expr.new.cursor c.in_err-take-2.field-0.0 (λ o h. c.in_ok-take.ensures _ o (c.in_ok-value.ensures.taken.2 _ o h)) (c.in_err-take-2.ensures _))

pub returns-in_err-last : goal.returns-in_err-last
returns-in_err-last c =
    let p = err_from_is_err_and c.from_residual-in_err-last.result c.from_residual-in_err-last.ensures.1 in
    rw (p.1, p.2) (λ f. fails_by _ _ c.args.cursor.now c.take-2.new.self c.in_err-last.field-0.0 (λ o h. c.in_ok-take.ensures _ o (c.in_ok-value.ensures.taken.2 _ o (c.in_ok-take-2.ensures _ o h))) (c.in_err-last.ensures _))

pub returns : goal.returns
returns c = (print c.in_ok-value.ensures.taken.0 (spanning c.args.at c.in_ok-last.last), built_print _ _ c.in_ok-value.ensures.taken.0 (spanning c.args.at c.in_ok-last.last) c.spanning.result c.spanning.ensures c.print.ensures c.in_ok-value.ensures.taken.1, λ f o h. c.in_ok-take.ensures _ o (c.in_ok-value.ensures.taken.2 _ o (c.in_ok-take-2.ensures _ o (c.in_ok-last.ensures _ o h))))
