-- The plan stands at its place.
use Rattle.std.proofs.Common.{◌∙◌, ap, map}
use Rattle.canonical_nests.specs.Plans.{seen_item, gather, place_among}
use Rattle.canonical_nests.proofs.Insertions.{inserted}
use Rattle.canonical_nests.proofs.directive_plan.insert.Goals as goal

pub returns : goal.returns
returns c =
    ap (λ ys. gather (map seen_item ys)) c.in_ok-insert.ensures.items
    ∙ inserted c.args.position c.args.plan c.args.applied.now.items c.place_among-at.result
    (c.place_among-at.ensures.place ∙ ap (λ xs. place_among c.args.position (map seen_item xs)) c.as_slice.ensures.value)
