use Rattle.std.proofs.Common.{◌≡◌, ◌-◌, ◌++◌, map, drop}
use Rattle.canonical_nests.specs.Kinds as kinds
use Rattle.loop_counts.proofs.interchanging.push_permuted.Given as goal

-- What was made and what is left are all.
abbrev pub invariant-each : goal.invariant-each
invariant-each l = l.all.items ++ map (λ p. kinds.kind_at l.part (p - 1)) (drop l.position-index l.permutation) ≡ l.initial.all.items ++ map (λ p. kinds.kind_at l.part (p - 1)) l.permutation
