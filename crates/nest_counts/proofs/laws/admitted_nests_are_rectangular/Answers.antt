-- By the kinds of the parts in its body.
use Rattle.nest_counts.proofs.Admitted.{admitted_nests_are_rectangular}
use Rattle.nest_counts.proofs.laws.admitted_nests_are_rectangular.Goals as goal

pub returns : goal.returns
returns c = admitted_nests_are_rectangular
