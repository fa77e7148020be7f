use Rattle.std.proofs.Common.{◌≡◌, map, drop}
use Rattle.c_tree.specs.PlacedOf.{placed_top}
use Rattle.translator.specs.Unbuilt.{first_unbuilt}
use Rattle.translator.proofs.first_unbuilt.first_unbuilt.Given as goal

-- What is left has the first one.
abbrev pub invariant-each : goal.invariant-each
invariant-each l = first_unbuilt (map placed_top (drop l.item-index l.items)) ≡ first_unbuilt (map placed_top l.items)
