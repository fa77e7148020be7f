-- A directive over its body, one item more, and the item at a part.
use Rattle.std.proofs.Common.{◌∙◌, sym, ap, ◌<◌, ◌≤◌, length, map, Some, None, arith}
use Rattle.c_semantics.specs.Loops.Need.{all_at_least, if_some, depths, below_depths, applied_depths}
use Rattle.canonical_nests.specs.LoopRules.PlacedPlans.{forget_plan, forget_items}
use Rattle.canonical_nests.specs.Plans.{seen_transformation, seen_plan, seen_item, gather}
use Rattle.canonical_nests.specs.BodyDepths.{depths_over, holds_from, parts_over}
use Rattle.canonical_nests.specs.declared.plan.Plan.{out-Plan}
use Rattle.canonical_nests.proofs.BodyDepths.{plan_lost, plan_found, item_more, part_missing, part_lost, part_found, item_lost, item_found}
use Rattle.canonical_nests.proofs.body_depths.+body_depths.Goals as goal

pub depths-returns-in-None : goal.depths-returns-in-None
depths-returns-in-None t c =
    λ k. plan_lost k c.args.plan.now c.args.over.now
    (sym (ap (λ o. holds_from o k) c.in-None.is) ∙ (c.in_ok-least_with_all.ensures k ∙ ap (λ n. all_at_least n (depths_over k c.args.over.now)) c.takes.ensures))

pub depths-returns-in_ok-left-in-Some : goal.depths-returns-in_ok-left-in-Some
depths-returns-in_ok-left-in-Some t c =
    let own = seen_transformation (out-Plan c.args.plan.now).transformation in
    let given = c.in_ok-transformed_depths-in-Some.field-0.items in
    λ k. plan_found k c.args.plan.now c.args.over.now c.in-Some.least given (parts_over k c.in_ok-left-in-Some.left)
    (sym (ap (λ o. holds_from o k) c.in-Some.is) ∙ (c.in_ok-least_with_all.ensures k ∙ ap (λ n. all_at_least n (depths_over k c.args.over.now)) c.takes.ensures))
    (c.in_ok-transformed_depths-in-Some.ensures k)
    (c.in_ok-left-in-Some.ensures k
    ∙ ap (λ xs. if_some (parts_over k (Some (record { least = c.in-Some.least; depths = c.in_ok-transformed_depths-in-Some.field-0 }))) (applied_depths own (forget_items (gather (map seen_item xs))))) c.as_slice-items.ensures)

pub applied_depths-returns-in-None : goal.applied_depths-returns-in-None
applied_depths-returns-in-None t c =
    λ k. item_more (seen_transformation c.args.c.now) c.args.items.now c.each.item-index c.item-item.result (parts_over k (Some c.each.parts)) None _
    c.place_of-place.result.part c.place_of-place.result.below c.each-test.true c.item-item.is c.place_of-place.ensures.part c.place_of-place.ensures.below
    (sym (ap (parts_over k) c.in-None.is) ∙ c.in_ok-part_depths.ensures k) (c.each.invariant k)

pub applied_depths-each-preserved : goal.applied_depths-each-preserved
applied_depths-each-preserved t c =
    λ k. item_more (seen_transformation c.args.c.now) c.args.items.now c.each.item-index c.item-item.result (parts_over k (Some c.each.parts)) (parts_over k (Some c.in-Some.next)) _
    c.place_of-place.result.part c.place_of-place.result.below c.each-test.true c.item-item.is c.place_of-place.ensures.part c.place_of-place.ensures.below
    (sym (ap (parts_over k) c.in-Some.is) ∙ c.in_ok-part_depths.ensures k) (c.each.invariant k)

pub part_depths-returns-then-place-all : goal.part_depths-returns-then-place-all
part_depths-returns-then-place-all t c =
    let past : length c.args.parts.now.depths.items ≤ c.args.place.part = omega (arith, ap length c.as_slice-all.ensures.value) in
    λ k. part_missing k (below_depths c.args.place.below (depths (forget_plan (seen_plan c.args.plan.now)))) c.args.parts.now.least c.args.parts.now.depths.items c.args.place.part past

pub part_depths-returns-in-None : goal.part_depths-returns-in-None
part_depths-returns-in-None t c =
    let within : c.args.place.part < length c.args.parts.now.depths.items = omega (arith, ap length c.as_slice-all.ensures.value) in
    λ k. part_lost k (below_depths c.args.place.below (depths (forget_plan (seen_plan c.args.plan.now)))) c.args.parts.now.least c.args.parts.now.depths.items c.args.place.part
    c.as_slice-all.result.now _ c.as_slice-all.ensures.value within (sym (ap (parts_over k) c.in-None.is) ∙ c.in_ok-item_depths.ensures k)

pub part_depths-returns-in_ok-replaced-in-Some : goal.part_depths-returns-in_ok-replaced-in-Some
part_depths-returns-in_ok-replaced-in-Some t c =
    let within : c.args.place.part < length c.args.parts.now.depths.items = omega (arith, ap length c.as_slice-all.ensures.value) in
    λ k. part_found k (below_depths c.args.place.below (depths (forget_plan (seen_plan c.args.plan.now)))) c.args.parts.now.least c.args.parts.now.depths.items c.args.place.part
    c.as_slice-all.result.now _ c.in-Some.given.least c.max.result c.in-Some.given.depths.items c.as_slice.result.now c.in_ok-replaced-in-Some.field-0.items
    c.as_slice-all.ensures.value within (sym (ap (parts_over k) c.in-Some.is) ∙ c.in_ok-item_depths.ensures k)
    c.max.ensures c.as_slice.ensures.value c.in_ok-replaced-in-Some.ensures

pub item_depths-returns-in-None-2 : goal.item_depths-returns-in-None-2
item_depths-returns-in-None-2 t c =
    λ k. item_lost k (depths (forget_plan (seen_plan c.args.plan.now))) c.args.below c.args.depth c.in_ok-shallower-in-Some.field-0 c.as_slice.result.now
    (c.as_slice.ensures.value ∙ c.in_ok-over-in-Some.ensures) (c.in_ok-shallower-in-Some.ensures k)
    (sym (ap (parts_over k) c.in-None-2.is) ∙ c.in_ok-depths-in-Some.ensures k)

pub item_depths-returns : goal.item_depths-returns
item_depths-returns t c =
    λ k. item_found k (depths (forget_plan (seen_plan c.args.plan.now))) c.args.below c.args.depth c.in_ok-shallower-in-Some.field-0 c.as_slice.result.now
    c.in-Some.least c.in-Some-2.given.least c.max.result c.in-Some-2.given.depths.items c.in_ok-nested-in-Some-2.field-0.items
    c.max.ensures (sym (ap (λ o. holds_from o k) c.in-Some.is) ∙ c.in_ok-least_with.ensures k)
    (c.as_slice.ensures.value ∙ c.in_ok-over-in-Some.ensures) (c.in_ok-shallower-in-Some.ensures k)
    (sym (ap (parts_over k) c.in-Some-2.is) ∙ c.in_ok-depths-in-Some.ensures k) (c.in_ok-nested-in-Some-2.ensures k)
