-- Each inner part, below the first loops.
use Rattle.std.proofs.Common.{◌≡◌, ◌∙◌, ap, subst, map, ◌++◌, take, drop, IfOk}
use Rattle.canonical_nests.specs.Kinds as kinds
use Rattle.canonical_nests.specs.Plans.{seen_transformation}
use Rattle.loop_counts.proofs.transformed.part_kinds.Goals as goal

pub returns : goal.returns
returns c =
    let k = c.args.round in
    let round_is = c.up_to.ensures ∙ ap (take k) (c.as_slice-2.ensures.value ∙ c.in_ok-new.ensures) in
    let inner_is =
    c.as_slice-3.ensures.value
    ∙ (c.in_ok-inner.ensures ∙ ap (kinds.inner_kinds (seen_transformation c.args.c.now) k) (c.beyond.ensures ∙ ap (drop k) (c.as_slice.ensures.value ∙ c.in_ok-new.ensures))) in
    subst (λ ys. IfOk c.each_below.result (λ all. all.items ≡ ys))
    (λ j. map (λ part. kinds.settled (round_is j ++ part)) (inner_is j))
    c.each_below.ensures
