-- Any transformation but `fuse` takes the first part.
use Rattle.std.proofs.Common.{◌≡◌, ◌∙◌, sym, ap, subst, IfOk}
use Rattle.canonical_nests.specs.Kinds as kinds
use Rattle.canonical_nests.specs.Plans.{seen_transformation}
use Rattle.loop_counts.proofs.Transforms.{not_fuse}
use Rattle.loop_counts.proofs.transformed.transformed_kinds.Goals as goal

pub returns-in_default : goal.returns-in_default
returns-in_default c =
    subst (λ ys. IfOk c.part_kinds.result (λ all. all.items ≡ ys))
    (ap (kinds.part_kinds (seen_transformation c.args.c.now) c.args.round) c.part_at.ensures
    ∙ sym (not_fuse c.args.c.now c.args.round c.args.parts.now c.in_default.not-Fuse))
    c.part_kinds.ensures
