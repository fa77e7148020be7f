-- One copy more.
use Rattle.loop_counts.proofs.Parts.{pushed_step}
use Rattle.loop_counts.proofs.Splits.{same_more}
use Rattle.loop_counts.proofs.splitting.same_parts.Goals as goal

pub each-preserved : goal.each-preserved
each-preserved c =
    pushed_step _ _ _ _ _ _ _ c.in_ok-push.ensures.items c.in_ok-copy_kind.ensures
    (same_more c.args.kind.now c.args.counts.now c.each._count-index c.each-test.true) c.each.invariant
