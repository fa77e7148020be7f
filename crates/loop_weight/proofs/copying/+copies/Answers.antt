-- One item more; and a directive with its items.
use Rattle.std.proofs.Common.{◌∙◌, ◌+◌, ◌*◌, ap, map, min, drop, arith}
use Rattle.canonical_nests.specs.Kinds.{at_part, below_loops, plan_kinds}
use Rattle.canonical_nests.specs.LoopRules.PlacedPlans.{forget_plan, forget_items}
use Rattle.canonical_nests.specs.Weight.{copies, applied_copies}
use Rattle.canonical_nests.specs.Plans.{seen_transformation, seen_plan, seen_item, gather}
use Rattle.canonical_nests.specs.declared.plan.Applied.{out-Applied}
use Rattle.canonical_nests.specs.declared.plan.Plan.{out-Plan}
use Rattle.loop_counts.proofs.ItemBreaches.{seen_plan_out}
use Rattle.loop_weight.proofs.Copies.{item_step, plan_step}
use Rattle.loop_weight.proofs.copying.+copies.Goals as goal

pub applied_copies-each-preserved : goal.applied_copies-each-preserved
applied_copies-each-preserved t c =
    let k = c.args.round in
    let part = c.place_of-place.result.part in
    let below = c.place_of-place.result.below in
    let placed = seen_plan (out-Applied c.item-item.result).plan in
    let rest = forget_items (gather (map seen_item (drop (c.each.item-index + 1) c.args.items.now))) in
    let here =
    c.in_ok-here.ensures
    ∙ ap (λ ps. min (copies (forget_plan placed) c.in_ok-inside.inside ps) 1048577) (c.beyond.ensures ∙ ap (drop part) c.as_slice.ensures.value) in
    let next =
    c.in_ok-parts.ensures
    ∙ ap (at_part part (below_loops below k (plan_kinds (forget_plan placed)))) c.as_slice-in-each.ensures.value in
    record {
      all =
          ap (λ n. min (n * applied_copies (seen_transformation c.args.c.now) rest k c.in_ok-parts.parts.items) 1048577) c.times-all.ensures
          ∙ item_step (seen_transformation c.args.c.now) k c.args.items.now c.each.item-index c.item-item.result c.each-test.true c.item-item.is
          c.each.parts.items c.in_ok-parts.parts.items c.each.all c.in_ok-here.here _ c.in_ok-inside.inside part below
          c.in_ok-inside.ensures c.place_of-place.ensures.part c.place_of-place.ensures.below here next c.each.invariant.all;
      within = omega (arith, c.times-all.ensures);
    }

pub copies-returns : goal.copies-returns
copies-returns t c =
    let k = c.args.round in
    let ps = c.args.parts.now in
    let fields = out-Plan c.args.plan.now in
    let seen = seen_transformation fields.transformation in
    let items = gather (map seen_item fields.items) in
    let given =
    c.in_ok-items.ensures
    ∙ (λ j. min (applied_copies seen (forget_items (gather (map seen_item (c.as_slice.ensures j)))) k (c.in_ok-given.ensures j)) 1048577) in
    plan_step seen fields.place items k ps c.own_copies-own.result c.in_ok-items.items c.times.result (seen_plan c.args.plan.now)
    (seen_plan_out c.args.plan.now) c.own_copies-own.ensures given c.times.ensures
