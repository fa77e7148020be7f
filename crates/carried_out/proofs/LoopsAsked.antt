-- A plan that only reverses asks for one loop.
use Rattle.std.proofs.Common.{◌≡◌, refl, ap, ◌∙◌, ℕ, suc, ◌+◌, ◌-◌, ◌≤◌, [], ◌∷◌, ◌++◌, Some, true, false, ◌&&◌, arith}
use Rattle.std.specs.Prelude.{nat_le, if◌then◌else◌, unwrap_or}
use Rattle.std.proofs.lemmas.Bool.{both_ways, leb-true, le-leb, and_parts}
use Rattle.c_semantics.specs.Loops.Transformations.{tile, interchange, reverse_, split, fuse, unroll_full, unroll_partial, Plan, plan, Applied, none_applied, applied_at}
use Rattle.c_semantics.specs.Loops.Need.{nested_depths, part_depths, below_depths, depths, applied_depths, if_some, serves, each_at_least, least_from, reach, loops_asked}
use Rattle.carried_out.specs.Reversible.{is_reversal, are_reversals}

-- an item stands on the outermost loop
pub at_first : (p : ℕ) → nat_le p 1 ≡ true → p - 1 ≡ 0
at_first p h = let l : p ≤ 1 = leb-true p 1 h in omega arith

-- over one loop it gives one
mutual
  one_depth : (p : Plan) → is_reversal p ≡ true → depths p (1 ∷ []) ≡ Some (1 ∷ [])
  one_depth (plan reverse_ w) h = items_depth w h
  one_depth (plan (tile ss) w) h = absurd (both_ways false refl h)
  one_depth (plan (interchange ps) w) h = absurd (both_ways false refl h)
  one_depth (plan (split cs) w) h = absurd (both_ways false refl h)
  one_depth (plan (fuse r) w) h = absurd (both_ways false refl h)
  one_depth (plan unroll_full w) h = absurd (both_ways false refl h)
  one_depth (plan (unroll_partial k) w) h = absurd (both_ways false refl h)

  items_depth : (w : Applied) → are_reversals w ≡ true → applied_depths reverse_ w (1 ∷ []) ≡ Some (1 ∷ [])
  items_depth none_applied h = refl
  items_depth (applied_at p d w) h =
      let none = at_first p (and_parts (nat_le p 1) _ h).0 in
      let rest = (and_parts (nat_le p 1) _ h).1 in
      let own = one_depth d (and_parts (is_reversal d) _ rest).0 in
      ap (λ k. if_some (part_depths 0 (below_depths k (depths d)) (1 ∷ [])) (applied_depths reverse_ w)) none
      ∙ ap (λ o. if_some (if_some (if_some o (λ bs. Some (nested_depths 0 bs))) (λ bs. Some (bs ++ []))) (applied_depths reverse_ w)) own
      ∙ items_depth w (and_parts (is_reversal d) _ rest).1

least_one : (p : Plan) (d n m : ℕ) → n ≡ suc m → serves p d 1 ≡ true → least_from p d 1 n ≡ Some 1
least_one p d n m e h = ap (λ k. least_from p d 1 k) e ∙ ap (λ b. if b then Some 1 else least_from p d 2 m) h

serves_one : (p : Plan) (d : ℕ) → d ≤ 1 → is_reversal p ≡ true → serves p d 1 ≡ true
serves_one p d k h = ap (each_at_least d) (one_depth p h) ∙ ap (λ b. b && true) (le-leb d 1 k)

pub asks_one : (p : Plan) (d : ℕ) → d ≤ 1 → is_reversal p ≡ true → loops_asked p d ≡ 1
asks_one (plan reverse_ w) d k h =
    let p = plan reverse_ w in
    let n = reach p + d in
    let e : n + 1 ≡ suc n = omega arith in
    ap (λ o. unwrap_or o 1) (least_one p d (n + 1) n e (serves_one p d k h))
asks_one (plan (tile ss) w) d k h = absurd (both_ways false refl h)
asks_one (plan (interchange ps) w) d k h = absurd (both_ways false refl h)
asks_one (plan (split cs) w) d k h = absurd (both_ways false refl h)
asks_one (plan (fuse r) w) d k h = absurd (both_ways false refl h)
asks_one (plan unroll_full w) d k h = absurd (both_ways false refl h)
asks_one (plan (unroll_partial m) w) d k h = absurd (both_ways false refl h)
