use Rattle.pragma_grammar.proofs.LastToken.{text_ends}
use Rattle.pragma_grammar.proofs.expression.ends_text.Goals as goal

pub returns-in-Some : goal.returns-in-Some
returns-in-Some c = text_ends c.args.tokens.now _ _ _ c.last.ensures.value c.in-Some.is c.is_end.ensures
