use Rattle.std.proofs.Common.{length}
use Rattle.c_tree.specs.Placed.{Stmts}
use Rattle.c_parser.specs.Bodies.{Grown}
use Rattle.c_parser.proofs.Declaring.{Declaring}
use Rattle.c_parser.proofs.declarations.declare.Given as goal

abbrev pub invariant-loop-all : goal.invariant-loop-all
invariant-loop-all l = (before : Stmts → Stmts) → Grown l.fn.stmts before → Declaring l.ty l.fn.from before l.initial.cursor l.all l.start l.cursor

abbrev pub decreases-loop-all : goal.decreases-loop-all
decreases-loop-all l = length l.cursor
