-- The number that is asked for serves, and so does each greater one.
use Rattle.nest_counts.proofs.Asked.{asked_loops_suffice}
use Rattle.nest_counts.proofs.laws.asked_loops_suffice.Goals as goal

pub returns : goal.returns
returns c = asked_loops_suffice
