-- The count is known, and each tree is a loop.
use Rattle.nest_counts.proofs.Corollaries.{known_counts_hold}
use Rattle.nest_counts.proofs.laws.known_counts_hold.Goals as goal

pub returns : goal.returns
returns c = known_counts_hold
