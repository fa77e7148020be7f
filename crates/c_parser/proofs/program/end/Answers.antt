use Rattle.std.proofs.Common.{List, length, drop, sym, ◌∙◌, ap, subst}
use Rattle.c_lexer.specs.declared.token.Token.{Token}
use Rattle.c_parser.specs.Comes.{IsBlamed}
use Rattle.c_grammar.proofs.Classes.{false_true}
use Rattle.c_parser.proofs.Parsed.{other_left, last_left, more_left, past_last}
use Rattle.c_parser.proofs.program.end.Goals as goal

pub returns-then-tokens-eq1 : goal.returns-then-tokens-eq1
returns-then-tokens-eq1 c = last_left c.first.result.now c.args.cursor.now tt c.first.ensures.first (c.is_end.ensures.0 c.if-is_end.true) (ap length (sym c.tokens.ensures.tokens) ∙ c.if-tokens-eq1.true)

pub advance-requires : goal.advance-requires
advance-requires c = past_last c.first.result.now c.args.cursor.now c.first.ensures.ended c.first.ensures.first (λ e. c.if-tokens-eq1.false (ap length c.tokens.ensures.tokens ∙ e))

pub returns-else-tokens-eq1 : goal.returns-else-tokens-eq1
returns-else-tokens-eq1 c = more_left c.first.result.now c.args.cursor.now c.blamed.result c.first.ensures.first (c.is_end.ensures.0 c.if-is_end.true) (λ e. c.if-tokens-eq1.false (ap length c.tokens.ensures.tokens ∙ e)) (subst (λ us. IsBlamed us c.blamed.result) c.advance.ensures c.blamed.ensures)

pub returns-else-is_end : goal.returns-else-is_end
returns-else-is_end c = other_left c.first.result.now c.args.cursor.now c.blamed-else-is_end.result c.first.ensures.first (λ q. false_true (sym c.if-is_end.false ∙ c.is_end.ensures.1 q)) c.blamed-else-is_end.ensures
