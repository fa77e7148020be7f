use Rattle.std.proofs.Common.{◌≡◌, map, drop}
use Rattle.canonical_nests.specs.LoopRules.BreachSets.{least, lesser}
use Rattle.canonical_nests.specs.LoopRules.Counts.{items_breaches}
use Rattle.canonical_nests.specs.Plans.{seen_transformation, seen_item, gather}
use Rattle.loop_counts.proofs.rules.+plan_breach.Given as goal

-- The least of what was found and of what is left is the least of all.
abbrev pub invariant-items_breach-each : goal.invariant-items_breach-each
invariant-items_breach-each l =
    lesser l.found (least (items_breaches (seen_transformation l.c) (gather (map seen_item (drop l.item-index l.items))) l.round l.parts.items))
    ≡ least (items_breaches (seen_transformation l.c) (gather (map seen_item l.items)) l.round l.initial.parts.items)
