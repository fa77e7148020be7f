use Rattle.std.proofs.lemmas.Result.{err_from_is_err_and}
use Rattle.c_parser.proofs.Taken.{directive_ends, directive_taken, directive_untaken}
use Rattle.c_parser.proofs.phrases.directive.Goals as goal

pub returns-in_err-read_directive : goal.returns-in_err-read_directive
returns-in_err-read_directive c =
    let p = err_from_is_err_and c.from_residual.result c.from_residual.ensures.1 in
    rw (p.1, p.2) (directive_untaken c.args.cursor.now c.tokens-tokens.result.now c.args.cursor.now c.in_err-read_directive.field-0.0 c.tokens-tokens.ensures.tokens c.tokens-tokens.ensures.ended c.in_err-read_directive.ensures)

pub skip-requires : goal.skip-requires
skip-requires c = let r = directive_ends c.args.cursor.now c.tokens-tokens.result.now c.in_ok-read_directive.field-0 c.kept_phrase-directive.result.1 c.tokens-tokens.ensures.tokens c.tokens-tokens.ensures.ended c.in_ok-read_directive.ensures c.kept_phrase-directive.ensures.1 in record { within = r.within; ended = r.ended }

pub returns : goal.returns
returns c = directive_taken c.args.cursor.now c.tokens-tokens.result.now c.skip.new.self c.in_ok-read_directive.field-0 c.kept_phrase-directive.result.0 c.kept_phrase-directive.result.1 c.tokens-tokens.ensures.tokens c.tokens-tokens.ensures.ended c.in_ok-read_directive.ensures c.kept_phrase-directive.ensures.0 c.kept_phrase-directive.ensures.1 c.skip.ensures
