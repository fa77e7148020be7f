-- Each name in a bound would be a breach.
use Rattle.nest_counts.proofs.Bounds.{bounds_are_invariant}
use Rattle.nest_counts.proofs.laws.bounds_are_invariant.Goals as goal

pub returns : goal.returns
returns c = bounds_are_invariant
