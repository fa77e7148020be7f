-- By the structure of the program.
use Rattle.carried_names.proofs.Rules.{bounds_apart}
use Rattle.carried_names.proofs.laws.admitted_have_bounds_apart.Goals as goal

pub returns : goal.returns
returns _ = bounds_apart
