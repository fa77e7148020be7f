-- One item more; and a directive with its items.
use Rattle.std.proofs.Common.{◌∙◌, ◌+◌, sym, ap, map, drop}
use Rattle.canonical_nests.specs.Kinds.{at_part, below_loops, plan_kinds}
use Rattle.canonical_nests.specs.LoopRules.PlacedPlans.{forget_plan}
use Rattle.canonical_nests.specs.LoopRules.BreachSets.{least, lesser}
use Rattle.canonical_nests.specs.LoopRules.Counts.{plan_breaches, items_breaches}
use Rattle.canonical_nests.specs.Plans.{seen_transformation, seen_plan, seen_item, gather}
use Rattle.canonical_nests.specs.declared.plan.Applied.{out-Applied}
use Rattle.canonical_nests.specs.declared.plan.Plan.{out-Plan}
use Rattle.loop_counts.proofs.ItemBreaches.{item_step, seen_plan_out}
use Rattle.loop_counts.proofs.rules.+plan_breach.Goals as goal

pub items_breach-each-preserved : goal.items_breach-each-preserved
items_breach-each-preserved t c =
    let k = c.args.round in
    let part = c.place_of-place.result.part in
    let below = c.place_of-place.result.below in
    let placed = seen_plan (out-Applied c.item-item.result).plan in
    let rest = gather (map seen_item (drop (c.each.item-index + 1) c.args.items.now)) in
    let here =
    c.in_ok-here.ensures
    ∙ ap (λ ps. least (plan_breaches placed c.in_ok-inside.inside ps)) (c.beyond.ensures ∙ ap (drop part) c.as_slice.ensures.value) in
    let next =
    c.in_ok-parts.ensures
    ∙ ap (at_part part (below_loops below k (plan_kinds (forget_plan placed)))) c.as_slice-in-each.ensures.value in
    ap (λ f. lesser f (least (items_breaches (seen_transformation c.args.c.now) rest k c.in_ok-parts.parts.items))) c.lesser-found.ensures
    ∙ item_step (seen_transformation c.args.c.now) k c.args.items.now c.each.item-index c.item-item.result c.each-test.true c.item-item.is
    c.each.parts.items c.in_ok-parts.parts.items c.each.found c.in_ok-here.here _ c.in_ok-inside.inside part below
    c.in_ok-inside.ensures c.place_of-place.ensures.part c.place_of-place.ensures.below here next c.each.invariant

pub plan_breach-returns : goal.plan_breach-returns
plan_breach-returns t c =
    let k = c.args.round in
    let ps = c.args.parts.now in
    let fields = out-Plan c.args.plan.now in
    let own_seen = seen_transformation fields.transformation in
    let items =
    c.in_ok-items.ensures
    ∙ (λ j. least (items_breaches own_seen (gather (map seen_item (c.as_slice.ensures j))) k (c.in_ok-given.ensures j))) in
    c.lesser.ensures
    ∙ ((λ j. lesser (c.in_ok-own.ensures j) (items j))
    ∙ sym (ap (λ p. least (plan_breaches p k ps)) (seen_plan_out c.args.plan.now)))
