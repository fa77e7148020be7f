-- By the kinds of the parts that it runs.
use Rattle.nest_counts.proofs.Admitted.{admitted_counts_hold}
use Rattle.nest_counts.proofs.laws.admitted_counts_hold.Goals as goal

pub returns : goal.returns
returns c = admitted_counts_hold
