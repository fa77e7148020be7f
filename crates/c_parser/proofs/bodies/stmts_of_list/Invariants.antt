use Rattle.c_parser.specs.Lists.{weight}
use Rattle.c_parser.proofs.Lists.{Reading}
use Rattle.c_parser.proofs.bodies.stmts_of_list.Given as goal

abbrev pub invariant-steps : goal.invariant-steps
invariant-steps l = Reading l.ends_main l.initial.cursor l.frames.items l.state l.cursor

abbrev pub decreases-steps : goal.decreases-steps
decreases-steps l = weight l.frames.items l.state l.cursor
