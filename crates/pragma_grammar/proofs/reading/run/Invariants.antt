use Rattle.std.proofs.Common.{◌≡◌, drop, []}
use Rattle.pragma_grammar.specs.Machine.{want}
use Rattle.pragma_grammar.specs.Stands.{outcome, phrases, stands}
use Rattle.pragma_grammar.proofs.reading.run.Given as goal

abbrev pub invariant-loop-i : goal.invariant-loop-i
invariant-loop-i l = outcome (drop l.i l.tokens) (stands l.state (phrases l.stack.items)) ≡ outcome (drop l.at l.tokens) (want [])
