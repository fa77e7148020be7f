use Rattle.std.proofs.Common.{◌≡◌}
use Rattle.canonical_nests.specs.LoopRules.Clauses.{one_to}
use Rattle.loop_clauses.proofs.numbers.one_to.Given as goal

abbrev pub invariant-each : goal.invariant-each
invariant-each l = l.numbers.items ≡ one_to l.i
