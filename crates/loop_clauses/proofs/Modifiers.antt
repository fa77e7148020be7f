-- A modifier is one of the directive's where its text is one of those.
use Rattle.canonical_nests.proofs.Texts.{same_text}

pub ruleset modifiers = (same_text)
