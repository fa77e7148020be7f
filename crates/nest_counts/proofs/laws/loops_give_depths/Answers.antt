-- Each statement, and each member of a sequence.
use Rattle.nest_counts.proofs.LoopDepths.{loops_give_depths}
use Rattle.nest_counts.proofs.laws.loops_give_depths.Goals as goal

pub returns : goal.returns
returns c = loops_give_depths
