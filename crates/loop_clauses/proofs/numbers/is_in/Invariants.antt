use Rattle.std.proofs.Common.{◌≡◌, drop}
use Rattle.canonical_nests.specs.LoopRules.Clauses.{is_in}
use Rattle.loop_clauses.proofs.numbers.is_in.Given as goal

-- What is left decides.
abbrev pub invariant-each : goal.invariant-each
invariant-each l = is_in l.number (drop l.other-index l.among) ≡ is_in l.number l.among
