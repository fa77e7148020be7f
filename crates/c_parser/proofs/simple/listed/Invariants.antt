use Rattle.std.proofs.Common.{length}
use Rattle.c_parser.proofs.SimpleTaken.{ListedCome}
use Rattle.c_parser.proofs.simple.listed.Given as goal

abbrev pub invariant-loop-exprs : goal.invariant-loop-exprs
invariant-loop-exprs l = ListedCome l.initial.cursor l.exprs l.cursor

abbrev pub decreases-loop-exprs : goal.decreases-loop-exprs
decreases-loop-exprs l = length l.cursor
