use Rattle.std.proofs.Common.{◌≡◌, ◌++◌, map, drop}
use Rattle.c_tree.specs.PlacedOf.{placed_top}
use Rattle.canonical_nests.specs.Constructs.{constructs_from}
use Rattle.loop_shapes.proofs.constructs.list_items.Given as goal

-- What was listed and what is left are all.
abbrev pub invariant-each : goal.invariant-each
invariant-each l = l.found.items ++ constructs_from l.scope.defines (map placed_top (drop l.item-index l.items)) ≡ l.initial.found.items ++ constructs_from l.initial.scope.defines (map placed_top l.items)
