-- The tiers of rules one after another, and then the statements of the body.
use Rattle.nest_counts.proofs.Admitted.{admitted_constructs_find}
use Rattle.nest_counts.proofs.laws.admitted_constructs_find.Goals as goal

pub returns : goal.returns
returns c = admitted_constructs_find
