-- The selected parts of a sequence become one.
use Rattle.std.proofs.Common.{rules, ◌≡◌, ◌∙◌, sym, ap, ℕ, ◌+◌, ◌-◌, List, ◌∷◌, ◌++◌, take, drop}
use Rattle.c_semantics.specs.Loops.Need.{transformed_depths}
use Rattle.canonical_nests.specs.Plans.{seen_transformation}
use Rattle.canonical_nests.specs.BodyDepths.{depths_over}
use Rattle.canonical_nests.proofs.BodyDepths.{fused_over}
use Rattle.canonical_nests.proofs.body_depths.transformed_depths.Goals as goal

pub returns-in_ok-fused-in-Fuse-Some : goal.returns-in_ok-fused-in-Fuse-Some
returns-in_ok-fused-in-Fuse-Some c =
    let a = c.in-Fuse-Some in
    let fused : (xs : List ℕ) → transformed_depths (seen_transformation c.args.c.now) xs ≡ take (a.first - 1) xs ++ 1 ∷ drop (a.first - 1 + a.count) xs = λ xs. search rules in
    λ k. ap (depths_over k) c.in_ok-fused-in-Fuse-Some.ensures
    ∙ (fused_over k c.args.depths.now (a.first - 1) (a.first - 1 + a.count) ∙ sym (fused (depths_over k c.args.depths.now)))
