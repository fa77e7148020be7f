-- A directive and its items give a part at least, where none of them is `fuse` and their arguments fit.
use Rattle.std.proofs.Common.{◌≡◌, subst, ℕ, zero, suc, ◌-◌, ◌<◌, List, [], ◌∷◌, ◌++◌, length, Option, Some, None, Bool, true, false, arith, length-append}
use Rattle.std.specs.Prelude.{replicate, nat_le, if◌then◌else◌}
use Rattle.c_semantics.specs.Loops.Transformations.{Transformation, tile, interchange, reverse_, split, fuse, unroll_full, unroll_partial, Plan, plan, Applied, none_applied, applied_at}
use Rattle.c_semantics.specs.Loops.Need.{transformed_depths, if_some, nested_depths, part_depths, below_depths, position_depths, depths, applied_depths}
use Rattle.nest_counts.specs.Found.{ArgumentFits, ArgumentsFit, ItemsFit, IsNoFuse}
use Rattle.nest_counts.proofs.Found.{some_then, enough_loops}

-- what gives parts at each depth
abbrev pub GivesParts : (ℕ → Option (List ℕ)) → Type 0
GivesParts f = (k : ℕ) (bs : List ℕ) → f k ≡ Some bs → 0 < length bs

pub part_parts : (i : ℕ) (f : ℕ → Option (List ℕ)) (ks ls : List ℕ) → GivesParts f → part_depths i f ks ≡ Some ls → 0 < length ls
part_parts i f [] ls gives e = absurd (cc)
part_parts zero f (k ∷ ks) ls gives e =
    let q = some_then (f k) (λ bs. Some (bs ++ ks)) ls e in
    let is : q.0 ++ ks ≡ ls = let g : Some (q.0 ++ ks) ≡ Some ls = q.1.1 in cc in
    let some : 0 < length q.0 = gives k q.0 q.1.0 in
    subst (λ z. 0 < length z) is (omega (arith, length-append q.0 ks))
part_parts (suc i) f (k ∷ ks) ls gives e =
    let q = some_then (part_depths i f ks) (λ bs. Some (k ∷ bs)) ls e in
    let is : k ∷ q.0 ≡ ls = let g : Some (k ∷ q.0) ≡ Some ls = q.1.1 in cc in
    subst (λ z. 0 < length z) is (omega arith)

nested_parts : (j : ℕ) (bs : List ℕ) → 0 < length bs → 0 < length (nested_depths j bs)
nested_parts zero bs some = some
nested_parts (suc j) [] some = omega arith
nested_parts (suc j) (b ∷ []) some = omega arith
nested_parts (suc j) (b ∷ c ∷ bs) some = omega arith

pub below_parts : (j : ℕ) (f : List ℕ → Option (List ℕ)) → GivesParts (λ k. f (k ∷ [])) → GivesParts (below_depths j f)
below_parts j f gives a ls e = by (nat_le j a) e
  where
    by : (t : Bool) → (if t then if_some (f ((a - j) ∷ [])) (λ bs. Some (nested_depths j bs)) else None) ≡ Some ls → 0 < length ls
    by false e = absurd (cc)
    by true e =
        let q = some_then (f ((a - j) ∷ [])) (λ bs. Some (nested_depths j bs)) ls e in
        let is : nested_depths j q.0 ≡ ls = let g : Some (nested_depths j q.0) ≡ Some ls = q.1.1 in cc in
        subst (λ z. 0 < length z) is (nested_parts j q.0 (gives (a - j) q.0 q.1.0))

position_parts : (c : Transformation) (p : ℕ) (f : List ℕ → Option (List ℕ)) (ks ls : List ℕ) → GivesParts (λ k. f (k ∷ [])) → position_depths c p f ks ≡ Some ls → 0 < length ls
position_parts (split cs) p f ks ls gives e = part_parts (p - 1) (below_depths 0 f) ks ls (below_parts 0 f gives) e
position_parts (fuse (Some r)) p f ks ls gives e = part_parts (r.0 - 1) (below_depths (p - 1) f) ks ls (below_parts (p - 1) f gives) e
position_parts (fuse None) p f ks ls gives e = part_parts 0 (below_depths (p - 1) f) ks ls (below_parts (p - 1) f gives) e
position_parts (tile ss) p f ks ls gives e = part_parts 0 (below_depths (p - 1) f) ks ls (below_parts (p - 1) f gives) e
position_parts (interchange qs) p f ks ls gives e = part_parts 0 (below_depths (p - 1) f) ks ls (below_parts (p - 1) f gives) e
position_parts reverse_ p f ks ls gives e = part_parts 0 (below_depths (p - 1) f) ks ls (below_parts (p - 1) f gives) e
position_parts unroll_full p f ks ls gives e = part_parts 0 (below_depths (p - 1) f) ks ls (below_parts (p - 1) f gives) e
position_parts (unroll_partial s) p f ks ls gives e = part_parts 0 (below_depths (p - 1) f) ks ls (below_parts (p - 1) f gives) e

some_replicated : (n k : ℕ) → 0 < n → 0 < length (replicate n k)
some_replicated zero k l = absurd (omega arith)
some_replicated (suc n) k l = omega arith

transformed_parts : (c : Transformation) (w : Applied) (k : ℕ) → IsNoFuse (plan c w) → ArgumentFits c → 0 < length (transformed_depths c (k ∷ []))
transformed_parts (tile ss) w k other fit = omega arith
transformed_parts (interchange qs) w k other fit = omega arith
transformed_parts reverse_ w k other fit = omega arith
transformed_parts (split cs) w k other fit = some_replicated (length cs) k fit
transformed_parts (fuse r) w k other fit = absurd other
transformed_parts unroll_full w k other fit = omega arith
transformed_parts (unroll_partial s) w k other fit = omega arith

mutual
  pub gives_parts : (p : Plan) → IsNoFuse p → ArgumentsFit p → GivesParts (λ k. depths p (k ∷ []))
  gives_parts (plan c w) other fit k es e =
      let q = enough_loops c (k ∷ []) (applied_depths c w (transformed_depths c (k ∷ []))) es e in
      items_parts c w (transformed_depths c (k ∷ [])) es fit.1 (transformed_parts c w k other fit.0) q.1

  pub items_parts : (c : Transformation) (w : Applied) (ks es : List ℕ) → ItemsFit w → 0 < length ks → applied_depths c w ks ≡ Some es → 0 < length es
  items_parts c none_applied ks es fit some e = subst (λ z. 0 < length z) (let s : ks ≡ es = cc in s) some
  items_parts c (applied_at p d w) ks es fit some e =
      let t = some_then (position_depths c p (depths d) ks) (applied_depths c w) es e in
      items_parts c w t.0 es fit.2 (position_parts c p (depths d) ks t.0 (λ k bs f. gives_parts d fit.0 fit.1 k bs f) t.1.0) t.1.1
