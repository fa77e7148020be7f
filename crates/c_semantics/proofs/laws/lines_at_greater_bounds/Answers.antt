-- By the structure of the program.
use Rattle.c_semantics.proofs.Programs.{lines_grow_later}
use Rattle.c_semantics.proofs.laws.lines_at_greater_bounds.Goals as goal

pub returns : goal.returns
returns c = lines_grow_later
