use Rattle.std.proofs.Common.{◌≡◌, map, drop}
use Rattle.canonical_nests.specs.Kinds as kinds
use Rattle.canonical_nests.specs.LoopRules.PlacedPlans.{forget_items}
use Rattle.canonical_nests.specs.Plans.{seen_transformation, seen_item, gather}
use Rattle.loop_counts.proofs.plan_kinds.+plan_kinds.Given as goal

-- The items that are left make of the parts so far what all make of those at the start.
abbrev pub invariant-applied_kinds-each : goal.invariant-applied_kinds-each
invariant-applied_kinds-each l =
    kinds.applied_kinds (seen_transformation l.c) (forget_items (gather (map seen_item (drop l.item-index l.items)))) l.round l.parts.items
    ≡ kinds.applied_kinds (seen_transformation l.c) (forget_items (gather (map seen_item l.items))) l.round l.initial.parts.items
