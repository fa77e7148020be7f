-- By the structure of the program.
use Rattle.resolved_names.proofs.Programs.{runs_alike}
use Rattle.resolved_names.proofs.laws.renamed_runs_alike.Goals as goal

pub returns : goal.returns
returns c = runs_alike
