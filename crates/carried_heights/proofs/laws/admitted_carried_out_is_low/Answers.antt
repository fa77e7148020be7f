-- By the rule on tall heights.
use Rattle.carried_heights.proofs.Admitted.{admitted_low}
use Rattle.carried_heights.proofs.laws.admitted_carried_out_is_low.Goals as goal

pub returns : goal.returns
returns _ = admitted_low
