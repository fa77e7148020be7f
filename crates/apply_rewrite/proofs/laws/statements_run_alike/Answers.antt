-- By what their parts do.
use Rattle.apply_rewrite.proofs.Congruent.{statements_run_alike}
use Rattle.apply_rewrite.proofs.laws.statements_run_alike.Goals as goal

pub returns : goal.returns
returns _ = statements_run_alike
