-- Each transformation, and then its items.
use Rattle.nest_counts.proofs.Structured.{structure_finds_loops}
use Rattle.nest_counts.proofs.laws.structure_finds_loops.Goals as goal

pub returns : goal.returns
returns c = structure_finds_loops
