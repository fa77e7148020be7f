use Rattle.std.proofs.lemmas.Result.{err_from_is_err_and}
use Rattle.c_parser.proofs.Taken.{expr_within, expr_ends, expr_taken, expr_untaken}
use Rattle.c_parser.proofs.phrases.expr.Goals as goal

pub returns-in_err-read_expr-clause-taken : goal.returns-in_err-read_expr-clause-taken
returns-in_err-read_expr-clause-taken c =
    let p = err_from_is_err_and c.from_residual.result c.from_residual.ensures.1 in
    rw (p.1, p.2) (expr_untaken c.args.cursor.now c.tokens-tokens.result.now c.args.cursor.now c.in_err-read_expr.field-0.0 c.tokens-tokens.ensures.tokens c.tokens-tokens.ensures.ended c.in_err-read_expr.ensures)

pub between-span-requires : goal.between-span-requires
between-span-requires c = let r = expr_within c.tokens-tokens.result.now c.in_ok-read_expr.field-0 c.kept_phrase-expr.result.1 c.in_ok-read_expr.ensures c.kept_phrase-expr.ensures.1 in record { some = r.some; within = r.within }

pub skip-requires : goal.skip-requires
skip-requires c = let r = expr_ends c.args.cursor.now c.tokens-tokens.result.now c.in_ok-read_expr.field-0 c.kept_phrase-expr.result.1 c.tokens-tokens.ensures.tokens c.tokens-tokens.ensures.ended c.in_ok-read_expr.ensures c.kept_phrase-expr.ensures.1 in record { within = r.within; ended = r.ended }

pub returns-clause-taken : goal.returns-clause-taken
returns-clause-taken c = expr_taken c.args.cursor.now c.tokens-tokens.result.now c.skip.new.self c.in_ok-read_expr.field-0 c.kept_phrase-expr.result.0 c.kept_phrase-expr.result.1 c.between-span.result c.tokens-tokens.ensures.tokens c.tokens-tokens.ensures.ended c.in_ok-read_expr.ensures c.kept_phrase-expr.ensures.0 c.kept_phrase-expr.ensures.1 c.between-span.ensures c.skip.ensures
