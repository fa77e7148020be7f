use Rattle.std.proofs.Common.{◌≡◌, map, drop}
use Rattle.canonical_nests.specs.LoopRules.BreachSets.{least}
use Rattle.canonical_nests.specs.LoopRules.Structure.{items_breaches}
use Rattle.canonical_nests.specs.Plans.{seen_transformation, seen_item, gather}
use Rattle.loop_structure.proofs.plans.+plan_breach.Given as goal

-- The items that are left, over the depths so far, decide.
abbrev pub invariant-items_breach-each : goal.invariant-items_breach-each
invariant-items_breach-each l =
    least (items_breaches (seen_transformation l.c) (gather (map seen_item (drop l.item-index l.items))) l.depths.items)
    ≡ least (items_breaches (seen_transformation l.c) (gather (map seen_item l.items)) l.initial.depths.items)
