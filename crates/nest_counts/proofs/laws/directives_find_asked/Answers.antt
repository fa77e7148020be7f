-- The loops that are asked for suffice.
use Rattle.nest_counts.proofs.Asked.{directives_find_asked}
use Rattle.nest_counts.proofs.laws.directives_find_asked.Goals as goal

pub returns : goal.returns
returns c = directives_find_asked
