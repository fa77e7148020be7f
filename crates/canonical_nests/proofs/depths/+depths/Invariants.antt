use Rattle.std.proofs.Common.{◌≡◌, map, drop}
use Rattle.c_semantics.specs.Loops.Need.{applied_depths}
use Rattle.canonical_nests.specs.LoopRules.PlacedPlans.{forget_items}
use Rattle.canonical_nests.specs.Plans.{seen_transformation, seen_item, gather}
use Rattle.canonical_nests.proofs.depths.+depths.Given as goal

-- The items that are left make of the depths so far what all make of those at the start.
abbrev pub invariant-applied_depths-each : goal.invariant-applied_depths-each
invariant-applied_depths-each l =
    applied_depths (seen_transformation l.c) (forget_items (gather (map seen_item (drop l.item-index l.items)))) l.depths.items
    ≡ applied_depths (seen_transformation l.c) (forget_items (gather (map seen_item l.items))) l.initial.depths.items
