use Rattle.std.proofs.Common.{length}
use Rattle.c_parser.specs.Items.{items_of}
use Rattle.c_parser.proofs.GlobalsTaken.{GlobalsCome}
use Rattle.c_parser.proofs.globals.globals.Given as goal

abbrev pub invariant-loop-items : goal.invariant-loop-items
invariant-loop-items l = GlobalsCome l.fn.ty l.fn.from (items_of l.fn.items) l.initial.cursor l.items l.from l.cursor

abbrev pub decreases-loop-items : goal.decreases-loop-items
decreases-loop-items l = length l.cursor
