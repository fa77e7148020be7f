use Rattle.std.proofs.Common.{◌≡◌, ◌++◌, map, drop}
use Rattle.canonical_nests.specs.Kinds as kinds
use Rattle.loop_counts.proofs.known.first_counts.Given as goal

-- What was made and what is left are all.
abbrev pub invariant-each : goal.invariant-each
invariant-each l = l.counts.items ++ map (λ part. kinds.known_count (kinds.kind_at part 0)) (drop l.part-index l.given) ≡ map (λ part. kinds.known_count (kinds.kind_at part 0)) l.given
