use Rattle.std.proofs.Common.{◌≡◌, ℕ, map, drop, Some}
use Rattle.c_semantics.specs.Loops.Need.{if_some, applied_depths}
use Rattle.canonical_nests.specs.LoopRules.PlacedPlans.{forget_items}
use Rattle.canonical_nests.specs.Plans.{seen_transformation, seen_item, gather}
use Rattle.canonical_nests.specs.BodyDepths.{parts_over}
use Rattle.canonical_nests.proofs.body_depths.+body_depths.Given as goal

-- The items that are left make of the parts so far what all make of those at the start.
abbrev pub invariant-applied_depths-each : goal.invariant-applied_depths-each
invariant-applied_depths-each l =
    (k : ℕ) → if_some (parts_over k (Some l.parts)) (applied_depths (seen_transformation l.c) (forget_items (gather (map seen_item (drop l.item-index l.items)))))
    ≡ if_some (parts_over k (Some l.initial.parts)) (applied_depths (seen_transformation l.c) (forget_items (gather (map seen_item l.items))))
