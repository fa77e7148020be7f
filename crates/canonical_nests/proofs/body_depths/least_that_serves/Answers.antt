-- Whether each part is deep enough is asked of the parts that the directive gives over the body alone.
use Rattle.std.proofs.Common.{◌∙◌, sym, ap}
use Rattle.c_semantics.specs.Loops.Need.{all_at_least}
use Rattle.canonical_nests.specs.LoopRules.PlacedPlans.{forget_plan}
use Rattle.canonical_nests.specs.Plans.{seen_plan}
use Rattle.canonical_nests.specs.BodyDepths.{depths_over, holds_from, parts_over}
use Rattle.canonical_nests.proofs.BodyDepths.{serves_never, serves_from}
use Rattle.canonical_nests.proofs.body_depths.least_that_serves.Goals as goal

pub returns-in-None : goal.returns-in-None
returns-in-None c =
    λ k. serves_never k (forget_plan (seen_plan c.args.plan.now)) c.args.wanted c.as_slice.result.now (c.as_slice.ensures.value ∙ c.in_ok-body.ensures)
    (sym (ap (parts_over k) c.in-None.is) ∙ c.in_ok-depths.ensures k)

pub returns : goal.returns
returns c =
    λ k. c.both.ensures k
    ∙ serves_from k (forget_plan (seen_plan c.args.plan.now)) c.args.wanted c.as_slice.result.now (c.as_slice.ensures.value ∙ c.in_ok-body.ensures)
    c.in-Some.parts.least c.in-Some.parts.depths.items (holds_from c.in_ok-deep-in-Some.deep k)
    (sym (ap (parts_over k) c.in-Some.is) ∙ c.in_ok-depths.ensures k)
    (c.in_ok-deep-in-Some.ensures k ∙ ap (λ ds. all_at_least c.args.wanted (depths_over k ds)) c.as_slice-in-Some.ensures.value)
