-- Plans that only reverse one loop: what they make of trees and of parts.
use Rattle.std.proofs.Common.{◌≡◌, refl, sym, ap, ◌∙◌, ℕ, zero, suc, List, [], ◌∷◌, true, false, append-nil}
use Rattle.std.specs.Prelude.{nat_le}
use Rattle.std.proofs.lemmas.Bool.{both_ways, and_parts}
use Rattle.c_semantics.specs.Loops.IterationTrees.{Tree}
use Rattle.c_semantics.specs.Loops.Transformations.{tile, interchange, reverse_, split, fuse, unroll_full, unroll_partial, transform, Plan, plan, Applied, none_applied, applied_at, apply_plan, apply_items, on_position, at_part, below_loops}
use Rattle.c_semantics.specs.Structure.Parts as shape
use Rattle.c_semantics.specs.Structure.Parts.{Part, plan_parts, applied_parts}
use Rattle.carried_out.specs.Reversible.{is_reversal, are_reversals}
use Rattle.carried_out.proofs.LoopsAsked.{at_first}
use Rattle.apply_rewrite.specs.ReverseStacks.{times_after, times_after_items}

-- ---- the trees

-- reversed so many times
abbrev pub stacked : ℕ → List Tree → List Tree
stacked zero ts = ts
stacked (suc k) ts = stacked k (transform reverse_ ts)

pub stacked_last : (k : ℕ) (ts : List Tree) → transform reverse_ (stacked k ts) ≡ stacked (suc k) ts
stacked_last zero ts = refl
stacked_last (suc k) ts = stacked_last k (transform reverse_ ts)

one_tree : (k : ℕ) (t : Tree) → (u : Tree) × (stacked k (t ∷ []) ≡ u ∷ [])
one_tree zero t = (t, refl)
one_tree (suc k) t = one_tree k _

on_first_tree : (p : ℕ) (f : List Tree → List Tree) (ts : List Tree) (u : Tree) → nat_le p 1 ≡ true → ts ≡ u ∷ [] → on_position reverse_ p f ts ≡ f ts
on_first_tree p f ts u h e =
    ap (λ k. at_part 0 (below_loops k f) ts) (at_first p h) ∙ ap (at_part 0 (below_loops 0 f)) e ∙ append-nil (f (u ∷ [])) ∙ ap f (sym e)

mutual
  pub trees_reversed : (p : Plan) → is_reversal p ≡ true → (k : ℕ) (t : Tree) → apply_plan p (stacked k (t ∷ [])) ≡ stacked (times_after p k) (t ∷ [])
  trees_reversed (plan reverse_ w) h k t = ap (apply_items reverse_ w) (stacked_last k (t ∷ [])) ∙ trees_reversed_by w h (suc k) t
  trees_reversed (plan (tile ss) w) h k t = absurd (both_ways false refl h)
  trees_reversed (plan (interchange qs) w) h k t = absurd (both_ways false refl h)
  trees_reversed (plan (split cs) w) h k t = absurd (both_ways false refl h)
  trees_reversed (plan (fuse r) w) h k t = absurd (both_ways false refl h)
  trees_reversed (plan unroll_full w) h k t = absurd (both_ways false refl h)
  trees_reversed (plan (unroll_partial n) w) h k t = absurd (both_ways false refl h)

  trees_reversed_by : (w : Applied) → are_reversals w ≡ true → (k : ℕ) (t : Tree) → apply_items reverse_ w (stacked k (t ∷ [])) ≡ stacked (times_after_items w k) (t ∷ [])
  trees_reversed_by none_applied h k t = refl
  trees_reversed_by (applied_at p d w) h k t =
      let rest = (and_parts (nat_le p 1) _ h).1 in
      let one = one_tree k t in
      ap (apply_items reverse_ w) (on_first_tree p (apply_plan d) (stacked k (t ∷ [])) one.0 (and_parts (nat_le p 1) _ h).0 one.1 ∙ trees_reversed d (and_parts (is_reversal d) _ rest).0 k t)
      ∙ trees_reversed_by w (and_parts (is_reversal d) _ rest).1 (times_after d k) t

-- ---- the parts

on_first_part : (p : ℕ) (f : List Part → List Part) (q : Part) → nat_le p 1 ≡ true → shape.on_position reverse_ p f (q ∷ []) ≡ f (q ∷ [])
on_first_part p f q h = ap (λ k. shape.at_part 0 (shape.below_loops k f) (q ∷ [])) (at_first p h) ∙ append-nil (f (q ∷ []))

mutual
  pub part_kept : (p : Plan) → is_reversal p ≡ true → (q : Part) → plan_parts p (q ∷ []) ≡ q ∷ []
  part_kept (plan reverse_ w) h q = part_kept_by w h q
  part_kept (plan (tile ss) w) h q = absurd (both_ways false refl h)
  part_kept (plan (interchange qs) w) h q = absurd (both_ways false refl h)
  part_kept (plan (split cs) w) h q = absurd (both_ways false refl h)
  part_kept (plan (fuse r) w) h q = absurd (both_ways false refl h)
  part_kept (plan unroll_full w) h q = absurd (both_ways false refl h)
  part_kept (plan (unroll_partial n) w) h q = absurd (both_ways false refl h)

  part_kept_by : (w : Applied) → are_reversals w ≡ true → (q : Part) → applied_parts reverse_ w (q ∷ []) ≡ q ∷ []
  part_kept_by none_applied h q = refl
  part_kept_by (applied_at p d w) h q =
      let rest = (and_parts (nat_le p 1) _ h).1 in
      ap (applied_parts reverse_ w) (on_first_part p (plan_parts d) q (and_parts (nat_le p 1) _ h).0 ∙ part_kept d (and_parts (is_reversal d) _ rest).0 q)
      ∙ part_kept_by w (and_parts (is_reversal d) _ rest).1 q
