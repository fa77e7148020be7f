use Rattle.std.proofs.Common.{◌≡◌, ◌++◌, map, drop}
use Rattle.canonical_nests.specs.Kinds as kinds
use Rattle.loop_counts.proofs.transformed.each_below.Given as goal

-- What was made and what is left are all.
abbrev pub invariant-each : goal.invariant-each
invariant-each l = l.all.items ++ map (λ part. kinds.settled (l.round ++ part)) (drop l.part-index l.parts) ≡ map (λ part. kinds.settled (l.round ++ part)) l.parts
