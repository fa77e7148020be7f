use Rattle.std.proofs.Common.{◌≡◌, map, drop}
use Rattle.canonical_nests.specs.LoopRules.PlacedPlans.{forget_items}
use Rattle.canonical_nests.specs.Plans.{seen_item, gather}
use Rattle.loop_normal.specs.GenOf.{bare_gen}
use Rattle.carried_out.specs.CarriedOut.{items_applied}
use Rattle.apply_rewrite.proofs.plans.+planned.Given as goal

-- The items that are left make of the code so far what all make of that at the start.
abbrev pub invariant-items_applied-each : goal.invariant-items_applied-each
invariant-items_applied-each l =
    items_applied (forget_items (gather (map seen_item (drop l.item-index l.items)))) (record { tree = bare_gen l.code; left = l.fresh })
    ≡ items_applied (forget_items (gather (map seen_item l.items))) (record { tree = bare_gen l.initial.code; left = l.initial.fresh })
