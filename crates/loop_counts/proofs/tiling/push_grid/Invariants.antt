use Rattle.std.proofs.Common.{◌≡◌, ◌++◌, drop}
use Rattle.canonical_nests.specs.Kinds as kinds
use Rattle.loop_counts.proofs.tiling.push_grid.Given as goal

-- What was made and what is left are all.
abbrev pub invariant-each : goal.invariant-each
invariant-each l = l.all.items ++ kinds.grid_kinds (drop l.i l.part) (drop l.i l.sizes) ≡ l.initial.all.items ++ kinds.grid_kinds l.part l.sizes
