use Rattle.std.proofs.Common.{◌-◌, length}
use Rattle.pragma_grammar.specs.DirectiveStands.{opens, stands}
use Rattle.pragma_grammar.proofs.DirectiveTurns.{Come}
use Rattle.pragma_grammar.proofs.directive.read_directive.Given as goal

abbrev pub invariant-loop-asked : goal.invariant-loop-asked
invariant-loop-asked l = Come l.tokens l.at (stands l.state (opens l.stack.items)) l.next

abbrev pub decreases-loop-asked : goal.decreases-loop-asked
decreases-loop-asked l = length l.tokens - l.next
