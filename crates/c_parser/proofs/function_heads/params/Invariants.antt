use Rattle.std.proofs.Common.{length}
use Rattle.c_parser.proofs.FunctionHeadsTaken.{ParamsCome}
use Rattle.c_parser.proofs.function_heads.params.Given as goal

abbrev pub invariant-loop-params : goal.invariant-loop-params
invariant-loop-params l = ParamsCome l.initial.cursor l.params l.cursor

abbrev pub decreases-loop-params : goal.decreases-loop-params
decreases-loop-params l = length l.cursor
