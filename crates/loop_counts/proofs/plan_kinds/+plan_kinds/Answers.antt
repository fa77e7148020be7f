-- The parts before an item's, those that it gives, and the parts after.
use Rattle.std.proofs.Common.{◌∙◌, arith}
use Rattle.loop_counts.proofs.Replaced.{assembled}
use Rattle.loop_counts.proofs.plan_kinds.+plan_kinds.Goals as goal

pub placed_kinds-returns : goal.placed_kinds-returns
placed_kinds-returns t c =
    assembled _ c.args.place.part c.args.parts.now c.index-parts-place.result c.as_slice-part.result.now _ _ _ _ _ _ _
    (omega arith) c.index-parts-place.is c.as_slice-part.ensures c.new-all.ensures.items c.up_to.ensures
    (c.as_slice.ensures.value ∙ c.in_ok-given.ensures) c.beyond.ensures
    c.in_ok-push_parts-2.ensures c.in_ok-push_parts-3.ensures c.in_ok-push_parts-4.ensures
