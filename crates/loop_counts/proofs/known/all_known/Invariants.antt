use Rattle.std.proofs.Common.{◌≡◌, drop}
use Rattle.c_semantics.specs.Structure.Parts as parts
use Rattle.loop_counts.proofs.KnownCounts.{with_known}
use Rattle.loop_counts.proofs.known.all_known.Given as goal

-- All so far are known.
abbrev pub invariant-each : goal.invariant-each
invariant-each l = with_known l.all.items (parts.all_known (drop l.count-index l.counts)) ≡ parts.all_known l.counts
