use Rattle.std.proofs.Common.{sym, ◌∙◌}
use Rattle.pragma_grammar.proofs.Turns.{asks_of}
use Rattle.pragma_grammar.proofs.reading.asks.Goals as goal

pub returns-in-Some : goal.returns-in-Some
returns-in-Some c = c.asked_by.ensures ∙ sym (asks_of _ _ _ _ c.deref.ensures.value c.last.ensures.value c.in-Some.is)
