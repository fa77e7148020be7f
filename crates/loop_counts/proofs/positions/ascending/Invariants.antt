use Rattle.std.proofs.Common.{◌≡◌, ◌≤◌, length, drop}
use Rattle.canonical_nests.specs.Kinds as kinds
use Rattle.loop_counts.proofs.positions.ascending.Given as goal

-- The last ones are in order.
abbrev pub invariant-each : goal.invariant-each
invariant-each l = record {
  within : l.left ≤ length l.positions;
  ordered : l.all.items ≡ kinds.ascending (drop l.left l.positions);
}

abbrev pub decreases-each : goal.decreases-each
decreases-each l = l.left
