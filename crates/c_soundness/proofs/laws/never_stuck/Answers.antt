-- By the structure of the program.
use Rattle.c_soundness.proofs.Soundness.{never_stuck}
use Rattle.c_soundness.proofs.laws.never_stuck.Goals as goal

pub returns : goal.returns
returns c = never_stuck
