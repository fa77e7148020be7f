-- Each statement, and each member of a sequence.
use Rattle.nest_counts.proofs.Admitted.{statements_have_loops}
use Rattle.nest_counts.proofs.laws.statements_have_loops.Goals as goal

pub returns : goal.returns
returns c = statements_have_loops
