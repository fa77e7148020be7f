use Rattle.std.proofs.Common.{length}
use Rattle.c_parser.proofs.TopsTaken.{TopsCome}
use Rattle.c_parser.proofs.program.all_items.Given as goal

abbrev pub invariant-loop-items : goal.invariant-loop-items
invariant-loop-items l = TopsCome l.initial.cursor l.items l.cursor

abbrev pub decreases-loop-items : goal.decreases-loop-items
decreases-loop-items l = length l.cursor
