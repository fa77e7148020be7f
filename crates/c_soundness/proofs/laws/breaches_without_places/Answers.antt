-- By the structure of the program.
use Rattle.c_soundness.proofs.Unplaced.{breaches_without_places}
use Rattle.c_soundness.proofs.laws.breaches_without_places.Goals as goal

pub returns : goal.returns
returns c = breaches_without_places
