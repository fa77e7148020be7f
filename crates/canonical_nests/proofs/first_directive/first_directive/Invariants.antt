use Rattle.std.proofs.Common.{◌≡◌, map, drop}
use Rattle.c_tree.specs.PlacedOf.{placed_top}
use Rattle.canonical_nests.specs.LoopRules.Programs.{first_directive}
use Rattle.canonical_nests.proofs.first_directive.first_directive.Given as goal

-- What is left has the first directive.
abbrev pub invariant-each : goal.invariant-each
invariant-each l = first_directive (map placed_top (drop l.item-index l.items)) ≡ first_directive (map placed_top l.items)
