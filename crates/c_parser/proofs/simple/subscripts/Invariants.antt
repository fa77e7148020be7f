use Rattle.std.proofs.Common.{length}
use Rattle.c_parser.proofs.SimpleTaken.{SubscriptsCome}
use Rattle.c_parser.proofs.simple.subscripts.Given as goal

abbrev pub invariant-loop-last : goal.invariant-loop-last
invariant-loop-last l = SubscriptsCome l.fn.at l.initial.cursor l.subs l.last l.cursor

abbrev pub decreases-loop-last : goal.decreases-loop-last
decreases-loop-last l = length l.cursor
