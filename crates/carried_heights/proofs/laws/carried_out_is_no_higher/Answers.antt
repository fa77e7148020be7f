-- By the structure of the program.
use Rattle.carried_heights.proofs.Walk.{no_higher}
use Rattle.carried_heights.proofs.laws.carried_out_is_no_higher.Goals as goal

pub returns : goal.returns
returns _ = no_higher
