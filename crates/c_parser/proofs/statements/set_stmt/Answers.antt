use Rattle.std.proofs.lemmas.Result.{err_from_is_err_and}
use Rattle.c_parser.proofs.SimpleTaken.{fails_by}
use Rattle.c_tree.specs.Placed.{set}
use Rattle.pragma_grammar.specs.Symbols.{spanning}
use Rattle.c_parser.proofs.Built.{built_set}
use Rattle.c_parser.proofs.statements.set_stmt.Goals as goal

pub returns-in_err-value : goal.returns-in_err-value
returns-in_err-value c =
    let p = err_from_is_err_and c.from_residual.result c.from_residual.ensures.1 in
    rw (p.1, p.2) (λ t q f. c.in_err-value.ensures.taken _)

pub returns-in_err-last : goal.returns-in_err-last
returns-in_err-last c =
    let p = err_from_is_err_and c.from_residual-in_err-last.result c.from_residual-in_err-last.ensures.1 in
    rw (p.1, p.2) (λ t q f. fails_by _ _ c.args.cursor.now c.expr.new.cursor c.in_err-last.field-0.0 (λ o h. c.in_ok-value.ensures.taken.2 _ o h) (c.in_err-last.ensures _))

pub returns : goal.returns
returns c = λ t q. (set t c.args.op c.in_ok-value.ensures.taken.0 (spanning c.args.at c.in_ok-last.last), built_set _ _ _ c.args.op t c.in_ok-value.ensures.taken.0 (spanning c.args.at c.in_ok-last.last) c.spanning.result c.spanning.ensures c.set.ensures q c.in_ok-value.ensures.taken.1, λ f o h. c.in_ok-value.ensures.taken.2 _ o (c.in_ok-last.ensures _ o h))
