-- Each transformation, and then its items.
use Rattle.nest_counts.proofs.Found.{rules_find_loops}
use Rattle.nest_counts.proofs.laws.rules_find_loops.Goals as goal

pub returns : goal.returns
returns c = rules_find_loops
