-- One depth more.
use Rattle.canonical_nests.specs.BodyDepths.{holds_from}
use Rattle.canonical_nests.proofs.BodyDepths.{all_more}
use Rattle.canonical_nests.proofs.body_depths.least_with_all.Goals as goal

pub each-preserved : goal.each-preserved
each-preserved c =
    λ k. all_more k c.args.wanted c.args.depths.now c.each.depth-index _ c.each.least c.in_ok-least_with.field-0 (holds_from c.both-least.result k) _
    c.each-test.true (c.in_ok-least_with.ensures k) (c.both-least.ensures k) (c.each.invariant k)
