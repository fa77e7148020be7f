-- The kind of each part.
use Rattle.std.proofs.Common.{◌≡◌, ◌∙◌, sym, ap, subst, map, IfOk}
use Rattle.c_semantics.specs.Loops.Transformations.{filled}
use Rattle.c_semantics.specs.Structure.Parts.{clipped}
use Rattle.canonical_nests.specs.declared.nest.CountKind.TheVariants.{Known}
use Rattle.canonical_nests.specs.Kinds.{split_kinds}
use Rattle.loop_counts.proofs.Splits.{split_known, split_same}
use Rattle.loop_counts.proofs.splitting.split_kinds.Goals as goal

pub returns-in-Known : goal.returns-in-Known
returns-in-Known c =
    let n = c.in-Known.turns in
    let cs = c.args.counts.now in
    subst (λ ys. IfOk c.known_parts.result (λ all. all.items ≡ ys))
    (ap (λ f. map Known (clipped n (map (filled f) cs))) c.left_over.ensures
    ∙ (sym (split_known n cs) ∙ ap (λ k. split_kinds k cs) (sym c.in-Known.is)))
    c.known_parts.ensures

pub returns-in_default : goal.returns-in_default
returns-in_default c =
    subst (λ ys. IfOk c.same_parts.result (λ all. all.items ≡ ys))
    (sym (split_same c.args.kind.now c.args.counts.now c.in_default.not-Known))
    c.same_parts.ensures
