use Rattle.std.proofs.Common.{◌≡◌, ◌++◌, drop}
use Rattle.canonical_nests.specs.Kinds as kinds
use Rattle.loop_counts.proofs.positions.with_position.Given as goal

-- What was made and what is left are all.
abbrev pub invariant-each : goal.invariant-each
invariant-each l = l.all.items ++ kinds.with_position l.position (drop l.i l.others) ≡ kinds.with_position l.position l.others
