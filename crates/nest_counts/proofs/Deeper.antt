-- Over deeper parts a directive and its items still find their loops, and give as many parts, each no less deep.
use Rattle.std.proofs.Common.{◌≡◌, refl, ap, ◌∙◌, subst, ℕ, zero, suc, ◌+◌, ◌-◌, ◌≤◌, List, [], ◌∷◌, ◌++◌, length, take, drop, Option, Some, None, Bool, true, false, get_or, arith}
use Rattle.std.specs.Prelude.{replicate, nat_le, if◌then◌else◌}
use Rattle.std.proofs.lemmas.Bool.{leb-true, le-leb, and_parts, and_from}
use Rattle.c_semantics.specs.Loops.Transformations.{Transformation, tile, interchange, reverse_, split, fuse, unroll_full, unroll_partial, Plan, plan, Applied, none_applied, applied_at}
use Rattle.c_semantics.specs.Loops.Need.{takes, transformed_depths, all_at_least, if_some, nested_depths, part_depths, below_depths, position_depths, depths, applied_depths}
use Rattle.nest_counts.specs.Found.{EachAtMost}
use Rattle.nest_counts.specs.Laws.{DeeperBodiesServe}
use Rattle.nest_counts.proofs.Found.{some_then, enough_loops}

-- ---- lists

each_append : (cs bs ks ls : List ℕ) → EachAtMost cs bs → EachAtMost ks ls → EachAtMost (cs ++ ks) (bs ++ ls)
each_append [] [] ks ls h g = g
each_append [] (b ∷ bs) ks ls h g = absurd h
each_append (a ∷ cs) [] ks ls h g = absurd h
each_append (a ∷ cs) (b ∷ bs) ks ls h g = (h.0, each_append cs bs ks ls h.1 g)

each_take : (n : ℕ) (ks ls : List ℕ) → EachAtMost ks ls → EachAtMost (take n ks) (take n ls)
each_take zero ks ls h = tt
each_take (suc n) [] [] h = tt
each_take (suc n) [] (l ∷ ls) h = absurd h
each_take (suc n) (k ∷ ks) [] h = absurd h
each_take (suc n) (k ∷ ks) (l ∷ ls) h = (h.0, each_take n ks ls h.1)

each_drop : (n : ℕ) (ks ls : List ℕ) → EachAtMost ks ls → EachAtMost (drop n ks) (drop n ls)
each_drop zero ks ls h = h
each_drop (suc n) [] [] h = tt
each_drop (suc n) [] (l ∷ ls) h = absurd h
each_drop (suc n) (k ∷ ks) [] h = absurd h
each_drop (suc n) (k ∷ ks) (l ∷ ls) h = each_drop n ks ls h.1

each_replicate : (n k l : ℕ) → k ≤ l → EachAtMost (replicate n k) (replicate n l)
each_replicate zero k l h = tt
each_replicate (suc n) k l h = (h, each_replicate n k l h)

first_at_most : (ks ls : List ℕ) → EachAtMost ks ls → get_or ks 0 0 ≤ get_or ls 0 0
first_at_most [] [] h = omega arith
first_at_most [] (l ∷ ls) h = absurd h
first_at_most (k ∷ ks) [] h = absurd h
first_at_most (k ∷ ks) (l ∷ ls) h = h.0

pub all_least : (d : ℕ) (ks ls : List ℕ) → EachAtMost ks ls → all_at_least d ks ≡ true → all_at_least d ls ≡ true
all_least d [] [] h least = refl
all_least d [] (l ∷ ls) h least = absurd h
all_least d (k ∷ ks) [] h least = absurd h
all_least d (k ∷ ks) (l ∷ ls) h least =
    let q = and_parts (nat_le d k) (all_at_least d ks) least in
    let a : d ≤ k = leb-true d k q.0 in
    let b : k ≤ l = h.0 in
    and_from (nat_le d l) (all_at_least d ls) (le-leb d l (omega arith)) (all_least d ks ls h.1 q.1)

-- ---- one transformation

transformed_deeper : (c : Transformation) (ks ls : List ℕ) → EachAtMost ks ls → EachAtMost (transformed_depths c ks) (transformed_depths c ls)
transformed_deeper (tile ss) ks ls h = (let l : get_or ks 0 0 ≤ get_or ls 0 0 = first_at_most ks ls h in omega arith, tt)
transformed_deeper (split cs) ks ls h = each_replicate (length cs) (get_or ks 0 0) (get_or ls 0 0) (first_at_most ks ls h)
transformed_deeper (fuse None) ks ls h = (omega arith, tt)
transformed_deeper (fuse (Some r)) ks ls h =
    each_append (take (r.0 - 1) ks) (take (r.0 - 1) ls) (1 ∷ drop (r.0 - 1 + r.1) ks) (1 ∷ drop (r.0 - 1 + r.1) ls) (each_take (r.0 - 1) ks ls h) (omega arith, each_drop (r.0 - 1 + r.1) ks ls h)
transformed_deeper unroll_full ks ls h = (omega arith, tt)
transformed_deeper (unroll_partial f) ks ls h = (omega arith, tt)
transformed_deeper (interchange ps) ks ls h = each_take 1 ks ls h
transformed_deeper reverse_ ks ls h = each_take 1 ks ls h

-- ---- items

-- parts as many as these, each no less deep
abbrev Deeper : List ℕ → Option (List ℕ) → Type 0
Deeper es o = (fs : List ℕ) × ((o ≡ Some fs) × EachAtMost es fs)

abbrev Deepens : (ℕ → Option (List ℕ)) → Type 0
Deepens f = (a b : ℕ) (es : List ℕ) → a ≤ b → f a ≡ Some es → Deeper es (f b)

part_deeper : (i : ℕ) (f : ℕ → Option (List ℕ)) → Deepens f → (ks ls es : List ℕ) → EachAtMost ks ls → part_depths i f ks ≡ Some es → Deeper es (part_depths i f ls)
part_deeper i f d [] ls es h e = absurd (cc)
part_deeper i f d (k ∷ ks) [] es h e = absurd h
part_deeper zero f d (k ∷ ks) (l ∷ ls) es h e =
    let q = some_then (f k) (λ bs. Some (bs ++ ks)) es e in
    let is : q.0 ++ ks ≡ es = let g : Some (q.0 ++ ks) ≡ Some es = q.1.1 in cc in
    let w = d k l q.0 h.0 q.1.0 in
    (w.0 ++ ls, (ap (λ o. if_some o (λ bs. Some (bs ++ ls))) w.1.0, subst (λ z. EachAtMost z (w.0 ++ ls)) is (each_append q.0 w.0 ks ls w.1.1 h.1)))
part_deeper (suc i) f d (k ∷ ks) (l ∷ ls) es h e =
    let q = some_then (part_depths i f ks) (λ bs. Some (k ∷ bs)) es e in
    let is : k ∷ q.0 ≡ es = let g : Some (k ∷ q.0) ≡ Some es = q.1.1 in cc in
    let w = part_deeper i f d ks ls q.0 h.1 q.1.0 in
    (l ∷ w.0, (ap (λ o. if_some o (λ bs. Some (l ∷ bs))) w.1.0, subst (λ z. EachAtMost z (l ∷ w.0)) is (h.0, w.1.1)))

nested_deeper : (k : ℕ) (cs bs : List ℕ) → EachAtMost cs bs → EachAtMost (nested_depths k cs) (nested_depths k bs)
nested_deeper zero cs bs h = h
nested_deeper (suc k) [] [] h = (omega arith, tt)
nested_deeper (suc k) [] (b ∷ bs) h = absurd h
nested_deeper (suc k) (a ∷ cs) [] h = absurd h
nested_deeper (suc k) (a ∷ []) (b ∷ []) h = (let l : a ≤ b = h.0 in omega arith, tt)
nested_deeper (suc k) (a ∷ []) (b ∷ c ∷ bs) h = absurd h.1
nested_deeper (suc k) (a ∷ c ∷ cs) (b ∷ []) h = absurd h.1
nested_deeper (suc k) (a ∷ c ∷ cs) (b ∷ d ∷ bs) h = (omega arith, tt)

-- what serves over one part serves over one that is deeper
abbrev DeepensOne : (List ℕ → Option (List ℕ)) → Type 0
DeepensOne f = Deepens (λ a. f (a ∷ []))

below_deeper : (k : ℕ) (f : List ℕ → Option (List ℕ)) → DeepensOne f → Deepens (below_depths k f)
below_deeper k f d a b es l e = by (nat_le k a) refl e
  where
    by : (t : Bool) → nat_le k a ≡ t → (if t then if_some (f ((a - k) ∷ [])) (λ bs. Some (nested_depths k bs)) else None) ≡ Some es → Deeper es (below_depths k f b)
    by false t e = absurd (cc)
    by true t e =
        let q = some_then (f ((a - k) ∷ [])) (λ bs. Some (nested_depths k bs)) es e in
        let is : nested_depths k q.0 ≡ es = let g : Some (nested_depths k q.0) ≡ Some es = q.1.1 in cc in
        let enough : k ≤ a = leb-true k a t in
        let w = d (a - k) (b - k) q.0 (omega arith) q.1.0 in (
          nested_depths k w.0,
          (
            ap (λ x. if x then if_some (f ((b - k) ∷ [])) (λ bs. Some (nested_depths k bs)) else None) (le-leb k b (omega arith))
                ∙ ap (λ o. if_some o (λ bs. Some (nested_depths k bs))) w.1.0,
            subst (λ z. EachAtMost z (nested_depths k w.0)) is (nested_deeper k q.0 w.0 w.1.1),
          ),
        )

position_deeper : (c : Transformation) (p : ℕ) (f : List ℕ → Option (List ℕ)) → DeepensOne f → (ks ls es : List ℕ) → EachAtMost ks ls → position_depths c p f ks ≡ Some es
    → Deeper es (position_depths c p f ls)
position_deeper (split cs) p f d ks ls es h e = part_deeper (p - 1) (below_depths 0 f) (below_deeper 0 f d) ks ls es h e
position_deeper (fuse (Some r)) p f d ks ls es h e = part_deeper (r.0 - 1) (below_depths (p - 1) f) (below_deeper (p - 1) f d) ks ls es h e
position_deeper (fuse None) p f d ks ls es h e = part_deeper 0 (below_depths (p - 1) f) (below_deeper (p - 1) f d) ks ls es h e
position_deeper (tile ss) p f d ks ls es h e = part_deeper 0 (below_depths (p - 1) f) (below_deeper (p - 1) f d) ks ls es h e
position_deeper (interchange qs) p f d ks ls es h e = part_deeper 0 (below_depths (p - 1) f) (below_deeper (p - 1) f d) ks ls es h e
position_deeper reverse_ p f d ks ls es h e = part_deeper 0 (below_depths (p - 1) f) (below_deeper (p - 1) f d) ks ls es h e
position_deeper unroll_full p f d ks ls es h e = part_deeper 0 (below_depths (p - 1) f) (below_deeper (p - 1) f d) ks ls es h e
position_deeper (unroll_partial s) p f d ks ls es h e = part_deeper 0 (below_depths (p - 1) f) (below_deeper (p - 1) f d) ks ls es h e

mutual
  pub depths_deeper : (p : Plan) (ks ls es : List ℕ) → EachAtMost ks ls → depths p ks ≡ Some es → Deeper es (depths p ls)
  depths_deeper (plan c w) ks ls es h e =
      let q = enough_loops c ks (applied_depths c w (transformed_depths c ks)) es e in
      let r = applied_deeper c w (transformed_depths c ks) (transformed_depths c ls) es (transformed_deeper c ks ls h) q.1 in
      (r.0, (ap (λ x. if x then applied_depths c w (transformed_depths c ls) else None) (all_least (takes c) ks ls h q.0) ∙ r.1.0, r.1.1))

  applied_deeper : (c : Transformation) (w : Applied) (ks ls es : List ℕ) → EachAtMost ks ls → applied_depths c w ks ≡ Some es → Deeper es (applied_depths c w ls)
  applied_deeper c none_applied ks ls es h e = (ls, (refl, subst (λ z. EachAtMost z ls) (let s : ks ≡ es = cc in s) h))
  applied_deeper c (applied_at p d w) ks ls es h e =
      let t = some_then (position_depths c p (depths d) ks) (applied_depths c w) es e in
      let q = position_deeper c p (depths d) (λ a b fs l f. depths_deeper d (a ∷ []) (b ∷ []) fs (l, tt) f) ks ls t.0 h t.1.0 in
      let r = applied_deeper c w t.0 q.0 es q.1.1 t.1.1 in
      (r.0, (ap (λ o. if_some o (applied_depths c w)) q.1.0 ∙ r.1.0, r.1.1))

pub deeper_bodies_serve : DeeperBodiesServe
deeper_bodies_serve p ks ls es h e = depths_deeper p ks ls es h e
