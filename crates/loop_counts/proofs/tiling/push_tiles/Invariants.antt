use Rattle.std.proofs.Common.{◌≡◌, ◌+◌, ◌++◌, drop}
use Rattle.canonical_nests.specs.Kinds as kinds
use Rattle.loop_counts.proofs.tiling.push_tiles.Given as goal

-- What was made and what is left are all.
abbrev pub invariant-each : goal.invariant-each
invariant-each l = l.all.items ++ kinds.tile_kinds (l.grid + l.i) (drop l.i l.part) (drop l.i l.sizes) ≡ l.initial.all.items ++ kinds.tile_kinds l.grid l.part l.sizes
