-- By the structure of the program.
use Rattle.c_semantics.proofs.Programs.{outcome_stays}
use Rattle.c_semantics.proofs.laws.greater_bounds.Goals as goal

pub returns : goal.returns
returns c = outcome_stays
