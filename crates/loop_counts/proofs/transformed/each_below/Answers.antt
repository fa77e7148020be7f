-- One part more.
use Rattle.std.proofs.Common.{◌∙◌, ap, ◌++◌}
use Rattle.canonical_nests.specs.Kinds.{settled}
use Rattle.loop_counts.proofs.Parts.{pushed_step}
use Rattle.loop_counts.proofs.Transforms.{below_more}
use Rattle.loop_counts.proofs.transformed.each_below.Goals as goal

pub each-preserved : goal.each-preserved
each-preserved c =
    pushed_step _ _ _ _ _ _ _ c.in_ok-push.ensures.items
    (c.in_ok-below.ensures ∙ ap (λ part. settled (c.args.round.now ++ part)) c.as_slice.ensures)
    (below_more c.args.round.now c.args.parts.now c.each.part-index c.part-item.result c.each-test.true c.part-item.is) c.each.invariant
