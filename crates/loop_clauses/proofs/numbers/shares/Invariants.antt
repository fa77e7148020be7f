use Rattle.std.proofs.Common.{◌≡◌, drop}
use Rattle.canonical_nests.specs.LoopRules.Clauses.{shares}
use Rattle.loop_clauses.proofs.numbers.shares.Given as goal

-- What is left decides.
abbrev pub invariant-each : goal.invariant-each
invariant-each l = shares (drop l.number-index l.numbers) l.others ≡ shares l.numbers l.others
