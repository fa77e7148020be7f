use Rattle.std.proofs.Common.{◌≡◌, ◌++◌, map, drop}
use Rattle.canonical_nests.specs.Kinds as kinds
use Rattle.loop_counts.proofs.known.each_count.Given as goal

-- What was made and what is left are all.
abbrev pub invariant-each : goal.invariant-each
invariant-each l = l.counts.items ++ map kinds.known_count (drop l.kind-index l.part) ≡ map kinds.known_count l.part
