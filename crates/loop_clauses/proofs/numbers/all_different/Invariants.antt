use Rattle.std.proofs.Common.{◌≡◌, drop}
use Rattle.canonical_nests.specs.LoopRules.Clauses.{all_different}
use Rattle.loop_clauses.proofs.numbers.all_different.Given as goal

-- What is left decides.
abbrev pub invariant-each : goal.invariant-each
invariant-each l = all_different (drop l.i l.numbers) ≡ all_different l.numbers
