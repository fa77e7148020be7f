-- By what is made of each item.
use Rattle.apply_rewrite.proofs.RunsAlike.{runs_alike}
use Rattle.apply_rewrite.proofs.laws.carried_out_runs_alike.Goals as goal

pub returns : goal.returns
returns _ = runs_alike
