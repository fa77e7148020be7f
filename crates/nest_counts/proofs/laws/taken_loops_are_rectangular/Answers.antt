-- The nest is built from its widths.
use Rattle.nest_counts.proofs.Corollaries.{taken_loops_are_rectangular}
use Rattle.nest_counts.proofs.laws.taken_loops_are_rectangular.Goals as goal

pub returns : goal.returns
returns c = taken_loops_are_rectangular
