-- Each transformation keeps them, and each item below its loops.
use Rattle.nest_counts.proofs.Corollaries.{directives_keep_kinds}
use Rattle.nest_counts.proofs.laws.directives_keep_kinds.Goals as goal

pub returns : goal.returns
returns c = directives_keep_kinds
