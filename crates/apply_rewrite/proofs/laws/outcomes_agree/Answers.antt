-- Item by item.
use Rattle.apply_rewrite.proofs.Programs.{outcomes_agree}
use Rattle.apply_rewrite.proofs.laws.outcomes_agree.Goals as goal

pub returns : goal.returns
returns _ = outcomes_agree
