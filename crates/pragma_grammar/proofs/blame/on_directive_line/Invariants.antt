use Rattle.std.proofs.Common.{◌≡◌, length}
use Rattle.pragma_grammar.specs.Reading.{on_directive_line}
use Rattle.pragma_grammar.proofs.blame.on_directive_line.Given as goal

abbrev pub invariant-loop-tokens : goal.invariant-loop-tokens
invariant-loop-tokens l = on_directive_line l.tokens ≡ on_directive_line l.initial.tokens

abbrev pub decreases-loop-tokens : goal.decreases-loop-tokens
decreases-loop-tokens l = length l.tokens
