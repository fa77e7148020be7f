-- By what its directives find.
use Rattle.nest_counts.proofs.Admitted.{admitted_bodies_have_kinds}
use Rattle.nest_counts.proofs.laws.admitted_bodies_have_kinds.Goals as goal

pub returns : goal.returns
returns c = admitted_bodies_have_kinds
