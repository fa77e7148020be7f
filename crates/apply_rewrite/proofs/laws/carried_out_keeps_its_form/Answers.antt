use Rattle.apply_rewrite.proofs.Skeletons.{same_skeleton}
use Rattle.apply_rewrite.proofs.WellFormedCode.{stays_well_formed}
use Rattle.apply_rewrite.proofs.laws.carried_out_keeps_its_form.Goals as goal

pub returns : goal.returns
returns _ = λ p well h. (same_skeleton p h, stays_well_formed p h well)
