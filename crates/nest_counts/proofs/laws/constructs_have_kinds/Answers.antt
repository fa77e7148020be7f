-- Source loops have them, and each directive keeps them.
use Rattle.nest_counts.proofs.Statements.{constructs_have_kinds}
use Rattle.nest_counts.proofs.laws.constructs_have_kinds.Goals as goal

pub returns : goal.returns
returns c = constructs_have_kinds
