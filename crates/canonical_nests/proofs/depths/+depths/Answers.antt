-- One item more.
use Rattle.std.proofs.Common.{◌∙◌, sym, ap}
use Rattle.std.specs.Option.{option_map}
use Rattle.c_semantics.specs.Loops.Need.{depths, part_depths, below_depths}
use Rattle.canonical_nests.specs.LoopRules.PlacedPlans.{forget_plan}
use Rattle.canonical_nests.specs.Plans.{seen_plan}
use Rattle.canonical_nests.specs.declared.plan.Applied.{out-Applied}
use Rattle.canonical_nests.proofs.Applied.{item_step}
use Rattle.canonical_nests.proofs.depths.+depths.Goals as goal

pub applied_depths-each-preserved : goal.applied_depths-each-preserved
applied_depths-each-preserved t c =
    item_step _ _ _ _ _ _ _ _ _ c.each-test.true c.item-item.is c.place_of-place.ensures.part c.place_of-place.ensures.below
    (sym (ap (option_map (λ v. v.items)) c.in-Some.is) ∙ (c.in_ok-part_depths.ensures ∙ ap (part_depths c.place_of-place.result.part (below_depths c.place_of-place.result.below (depths (forget_plan (seen_plan (out-Applied c.item-item.result).plan))))) c.as_slice.ensures.value)) c.each.invariant
