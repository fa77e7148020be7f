use Rattle.std.proofs.Common.{◌≡◌, drop}
use Rattle.canonical_nests.specs.LoopRules.Counts.{some_depends}
use Rattle.loop_counts.proofs.rules.some_depends.Given as goal

-- What is left decides.
abbrev pub invariant-each : goal.invariant-each
invariant-each l = some_depends l.round l.taken l.own (drop l.kind-index l.part) ≡ some_depends l.round l.taken l.first l.part
