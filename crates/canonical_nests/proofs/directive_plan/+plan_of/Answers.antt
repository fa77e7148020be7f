-- The transformation, the place and the items make up the plan; an `apply` puts its items at their positions.
use Rattle.std.proofs.Common.{◌∙◌, ap, map}
use Rattle.c_tree.specs.PlacedOf.{placed_clauses}
use Rattle.canonical_nests.specs.LoopRules.PlacedPlans.{clauses_items}
use Rattle.canonical_nests.specs.Plans.{seen_item, gather}
use Rattle.canonical_nests.proofs.Planned.{planned}
use Rattle.canonical_nests.proofs.PutItems.{put_apply}
use Rattle.canonical_nests.proofs.directive_plan.+plan_of.Goals as goal

pub plan_of-returns : goal.plan_of-returns
plan_of-returns g t c =
    let ds = g.C.Constants.defines c.args.constants.now in
    planned ds c.args.directive.now c.in_ok-transformation.transformation c.sizes_count.result c.from_items.result c.as_slice-clauses.result.now
    c.as_slice-clauses.ensures c.in_ok-transformation.ensures c.sizes_count.ensures
    (ap (λ is. gather (map seen_item is)) c.from_items.ensures
    ∙ (c.in_ok-put_clauses.ensures
    ∙ ap (λ is. clauses_items ds c.sizes_count.result (placed_clauses c.as_slice-clauses.result.now) (gather (map seen_item is))) c.new-items.ensures.items))

pub put_clause-returns-in_ok-put_items-in-Apply : goal.put_clause-returns-in_ok-put_items-in-Apply
put_clause-returns-in_ok-put_items-in-Apply g t c =
    c.in_ok-put_items-in-Apply.ensures
    ∙ put_apply (g.C.Constants.defines c.args.constants.now) c.args.sizes (gather (map seen_item c.args.applied.now.items)) c.args.clause.now
    c.in-Apply.modifier c.in-Apply.indices c.as_slice.result.now c.in-Apply.items c.as_slice-in-Apply.result.now _ _ _ c.as_slice-in-Apply-2.result.now
    c.in-Apply.is c.as_slice.ensures c.as_slice-in-Apply.ensures c.in_ok-places-in-Apply.ensures c.as_slice-in-Apply-2.ensures.value c.loops_before.ensures c.in_ok-next-in-Apply.ensures
