use Rattle.pragma_grammar.proofs.Stack.{pushed}
use Rattle.pragma_grammar.proofs.reading.open_phrase.Goals as goal

pub returns : goal.returns
returns c = pushed _ _ _ c.in_ok-push.ensures.items
