-- The rules of structure and of counts say that each directive finds what it takes.
use Rattle.std.proofs.Common.{◌≡◌, refl, sym, ap, ◌∙◌, subst, ℕ, zero, suc, ◌+◌, ◌-◌, ◌<◌, ◌≤◌, List, [], ◌∷◌, ◌++◌, map, length, take, drop, Option, Some, None, Bool, true, false, get_or, arith, length-append, length-drop}
use Rattle.std.specs.Prelude.{replicate, nat_le, if◌then◌else◌}
use Rattle.std.proofs.lemmas.Bool.{leb-true, and_parts}
use Rattle.c_semantics.specs.Loops.Transformations.{Transformation, tile, interchange, reverse_, split, fuse, unroll_full, unroll_partial}
use Rattle.c_semantics.specs.Loops.Need.{takes, transformed_depths, all_at_least, if_some, nested_depths, part_depths, below_depths, position_depths, depths, applied_depths}
use Rattle.c_semantics.specs.Structure.Parts.{split_counts}
use Rattle.canonical_nests.specs.declared.nest.CountKind.{CountKind}
use Rattle.canonical_nests.specs.Kinds as kinds
use Rattle.canonical_nests.specs.Kinds.{Part, no_part, moved, settled, position_up_to, positions_below, kind_at, known_count, same_kind, split_kinds, part_kinds, transformed_kinds, fused_kind, as_one_part, plan_kinds, applied_kinds, outermost}
use Rattle.canonical_nests.specs.Weight.{loops_round, part_of_position}
use Rattle.canonical_nests.specs.LoopRules.BreachSets.{HasNone}
use Rattle.canonical_nests.specs.LoopRules.PlacedPlans.{PlacedPlan, PlacedItems, plan, none_applied, applied_at, forget_plan, forget_items}
use Rattle.canonical_nests.specs.LoopRules.Counts as counts
use Rattle.canonical_nests.specs.LoopRules.Counts.{depend_on_another}
use Rattle.canonical_nests.specs.declared.rules.LoopRule.TheVariants.{L8}
use Rattle.nest_counts.specs.Plans.{FindsParts, place, Finds, ItemsFind}
use Rattle.nest_counts.specs.Laws.{RulesFindLoops}
use Rattle.nest_counts.specs.Found.{ArgumentFits, ArgumentsFit, ItemsFit, IsNoFuse, lengths_below, AllReach}
use Rattle.nest_counts.proofs.Places.{length_kinds, length_take_on}
use Rattle.nest_counts.proofs.TilePlaces.{length_grids, length_tiles}
use Rattle.nest_counts.proofs.InterchangePart.{length_order}
use Rattle.nest_counts.proofs.SplitParts.{length_counts}
use Rattle.nest_counts.proofs.Tile.{get_drop}
use Rattle.canonical_nests.proofs.BreachSets.{none_if}

-- ---- lengths of parts

length_part : (c : Transformation) (k : ℕ) (ks below : Part) → k ≤ length ks → length (settled (take k (map (moved (positions_below k c)) ks) ++ below)) ≡ k + length below
length_part c k ks below l =
    length_kinds (moved (position_up_to (length (take k (map (moved (positions_below k c)) ks) ++ below)))) (take k (map (moved (positions_below k c)) ks) ++ below)
    ∙ length_take_on k (map (moved (positions_below k c)) ks) below (let e : length (map (moved (positions_below k c)) ks) ≡ length ks = length_kinds (moved (positions_below k c)) ks in omega arith)

length_rest : (c : Transformation) (k a : ℕ) (ks : Part) → length (drop a (drop k (map (moved (positions_below k c)) ks))) ≡ length ks - k - a
length_rest c k a ks = let e : length (map (moved (positions_below k c)) ks) ≡ length ks = length_kinds (moved (positions_below k c)) ks in omega (arith, length-drop a (drop k (map (moved (positions_below k c)) ks)), length-drop k (map (moved (positions_below k c)) ks))

length_old : (c : Transformation) (k : ℕ) (ks : Part) → length (drop k (map (moved (positions_below k c)) ks)) ≡ length ks - k
length_old c k ks = let e : length (map (moved (positions_below k c)) ks) ≡ length ks = length_kinds (moved (positions_below k c)) ks in omega (arith, length-drop k (map (moved (positions_below k c)) ks))

-- depths of parts, and that each reaches the loop at k
abbrev Reaches : ℕ → List ℕ → List Part → Type 0
Reaches k es ps = (es ≡ lengths_below k ps) × AllReach k ps

one_reaches : (k e : ℕ) (q : Part) → length q ≡ k + e → Reaches k (e ∷ []) (q ∷ [])
one_reaches k e q is = (ap (λ n. n ∷ []) (let s : e ≡ length q - k = omega arith in s), (omega arith, tt))

first_length : (k : ℕ) (ps : List Part) → 0 < length ps → get_or (lengths_below k ps) 0 0 ≡ length (get_or ps 0 no_part) - k
first_length k [] l = absurd (omega arith)
first_length k (p ∷ ps) l = refl

first_taken : (k : ℕ) (ps : List Part) → 0 < length ps → take 1 (lengths_below k ps) ≡ (length (get_or ps 0 no_part) - k) ∷ []
first_taken k [] l = absurd (omega arith)
first_taken k (p ∷ ps) l = refl

first_reach : (k : ℕ) (ps : List Part) → 0 < length ps → AllReach k ps → k ≤ length (get_or ps 0 no_part)
first_reach k [] l h = absurd (omega arith)
first_reach k (p ∷ ps) l h = h.0

first_least : (d k : ℕ) (ps : List Part) → 0 < length ps → all_at_least d (lengths_below k ps) ≡ true → d ≤ length (get_or ps 0 no_part) - k
first_least d k [] l h = absurd (omega arith)
first_least d k (p ∷ ps) l h = leb-true d (length p - k) (and_parts (nat_le d (length p - k)) (all_at_least d (lengths_below k ps)) h).0

-- ---- each transformation

replicated : (k e : ℕ) (F : CountKind → Part) (cs : List CountKind) → ((c : CountKind) → length (F c) ≡ k + e) → Reaches k (replicate (length cs) e) (map F cs)
replicated k e F [] is = (refl, tt)
replicated k e F (c ∷ cs) is =
    let rest : Reaches k (replicate (length cs) e) (map F cs) = replicated k e F cs is in
    let l : length (F c) ≡ k + e = is c in
    ((λ i. (let s : e ≡ length (F c) - k = omega arith in s) i ∷ rest.0 i), (omega arith, rest.1))

map_twice : (f : Part → Part) (g : CountKind → Part) (cs : List CountKind) → map f (map g cs) ≡ map (λ c. f (g c)) cs
map_twice f g [] = refl
map_twice f g (c ∷ cs) = ap (λ l. f (g c) ∷ l) (map_twice f g cs)

length_split_kinds : (K : CountKind) (cs : List (Option ℕ)) → length (split_kinds K cs) ≡ length cs
length_split_kinds K cs = by (split_counts (known_count K) cs) ∙ length_counts (known_count K) cs
  where
    by : (os : List (Option ℕ)) → length (map (same_kind K) os) ≡ length os
    by [] = refl
    by (o ∷ os) = ap (λ n. suc n) (by os)

take_lengths : (k n : ℕ) (ps : List Part) → take n (lengths_below k ps) ≡ lengths_below k (take n ps)
take_lengths k zero ps = refl
take_lengths k (suc n) [] = refl
take_lengths k (suc n) (p ∷ ps) = ap (λ l. (length p - k) ∷ l) (take_lengths k n ps)

drop_lengths : (k n : ℕ) (ps : List Part) → drop n (lengths_below k ps) ≡ lengths_below k (drop n ps)
drop_lengths k zero ps = refl
drop_lengths k (suc n) [] = refl
drop_lengths k (suc n) (p ∷ ps) = drop_lengths k n ps

append_lengths : (k : ℕ) (ps qs : List Part) → lengths_below k (ps ++ qs) ≡ lengths_below k ps ++ lengths_below k qs
append_lengths k [] qs = refl
append_lengths k (p ∷ ps) qs = ap (λ l. (length p - k) ∷ l) (append_lengths k ps qs)

all_zero : (ps : List Part) → AllReach 0 ps
all_zero [] = tt
all_zero (p ∷ ps) = (omega arith, all_zero ps)

transformed_reaches : (c : Transformation) (k : ℕ) (ps : List Part) → FindsParts c k ps → AllReach k ps → Reaches k (transformed_depths c (lengths_below k ps)) (transformed_kinds c k ps)
transformed_reaches (tile ss) k ps f r =
    let ks : Part = get_or ps 0 no_part in
    let C : Part = drop k (map (moved (positions_below k (tile ss))) ks) in
    let lc : length C ≡ length ks - k = length_old (tile ss) k ks in
    let enough : k + length ss ≤ length ks = f.1.1 in
    let many : length ss ≤ length C = omega arith in
    let a : length (kinds.grid_kinds C ss) ≡ length ss = length_grids C ss many in
    let b : length (kinds.tile_kinds (k + 1) C ss) ≡ length ss = length_tiles (k + 1) C ss many in
    let d : length (drop (length ss) C) ≡ length C - length ss = length-drop (length ss) C in
    let e : length (kinds.tile_kinds (k + 1) C ss ++ drop (length ss) C) ≡ length (kinds.tile_kinds (k + 1) C ss) + length (drop (length ss) C) = length-append (kinds.tile_kinds (k + 1) C ss) (drop (length ss) C) in
    let g : length (kinds.tiled k ss C) ≡ length (kinds.grid_kinds C ss) + length (kinds.tile_kinds (k + 1) C ss ++ drop (length ss) C) = length-append (kinds.grid_kinds C ss) (kinds.tile_kinds (k + 1) C ss ++ drop (length ss) C) in
    let first : get_or (lengths_below k ps) 0 0 ≡ length ks - k = first_length k ps f.0 in
    one_reaches k (get_or (lengths_below k ps) 0 0 + length ss) (settled (take k (map (moved (positions_below k (tile ss))) ks) ++ kinds.tiled k ss C))
    (length_part (tile ss) k ks (kinds.tiled k ss C) (omega arith) ∙ (let s : k + length (kinds.tiled k ss C) ≡ k + (get_or (lengths_below k ps) 0 0 + length ss) = omega arith in s))
transformed_reaches (interchange qs) k ps f r =
    let ks : Part = get_or ps 0 no_part in
    let C : Part = drop k (map (moved (positions_below k (interchange qs))) ks) in
    let lc : length C ≡ length ks - k = length_old (interchange qs) k ks in
    let enough : k + length qs ≤ length ks = f.1.1 in
    let a : length (outermost (take (length qs) C) (map (λ p. kind_at C (p - 1)) qs)) ≡ length qs = length_order (take (length qs) C) C qs in
    let b : length (drop (length qs) C) ≡ length C - length qs = length-drop (length qs) C in
    let d : length (kinds.interchanged qs C) ≡ length (outermost (take (length qs) C) (map (λ p. kind_at C (p - 1)) qs)) + length (drop (length qs) C) = length-append (outermost (take (length qs) C) (map (λ p. kind_at C (p - 1)) qs)) (drop (length qs) C) in
    subst (λ es. Reaches k es (transformed_kinds (interchange qs) k ps)) (sym (first_taken k ps f.0))
    (one_reaches k (length ks - k) (settled (take k (map (moved (positions_below k (interchange qs))) ks) ++ kinds.interchanged qs C))
    (length_part (interchange qs) k ks (kinds.interchanged qs C) (omega arith) ∙ (let s : k + length (kinds.interchanged qs C) ≡ k + (length ks - k) = omega arith in s)))
transformed_reaches reverse_ k ps f r =
    let ks : Part = get_or ps 0 no_part in
    let C : Part = drop k (map (moved (positions_below k reverse_)) ks) in
    let lc : length C ≡ length ks - k = length_old reverse_ k ks in
    let some : k < length ks = f.1 in
    subst (λ es. Reaches k es (transformed_kinds reverse_ k ps)) (sym (first_taken k ps f.0))
    (one_reaches k (length ks - k) (settled (take k (map (moved (positions_below k reverse_)) ks) ++ C))
    (length_part reverse_ k ks C (omega arith) ∙ (let s : k + length C ≡ k + (length ks - k) = omega arith in s)))
transformed_reaches (split cs) k ps f r =
    let ks : Part = get_or ps 0 no_part in
    let C : Part = drop k (map (moved (positions_below k (split cs))) ks) in
    let ld : length (drop 1 C) ≡ length ks - k - 1 = length_rest (split cs) k 1 ks in
    let some : k < length ks = f.1 in
    let first : get_or (lengths_below k ps) 0 0 ≡ length ks - k = first_length k ps f.0 in
    let F : CountKind → Part = λ c. settled (take k (map (moved (positions_below k (split cs))) ks) ++ (c ∷ drop 1 C)) in
    let all : Reaches k (replicate (length (split_kinds (kind_at C 0) cs)) (get_or (lengths_below k ps) 0 0)) (map F (split_kinds (kind_at C 0) cs)) =
    replicated k (get_or (lengths_below k ps) 0 0) F (split_kinds (kind_at C 0) cs)
    (λ c. length_part (split cs) k ks (c ∷ drop 1 C) (omega arith) ∙ (let s : k + suc (length (drop 1 C)) ≡ k + get_or (lengths_below k ps) 0 0 = omega arith in s)) in
    subst (λ n. Reaches k (replicate n (get_or (lengths_below k ps) 0 0)) (part_kinds (split cs) k ks)) (length_split_kinds (kind_at C 0) cs)
    (subst (Reaches k (replicate (length (split_kinds (kind_at C 0) cs)) (get_or (lengths_below k ps) 0 0))) (sym (map_twice (λ below. settled (take k (map (moved (positions_below k (split cs))) ks) ++ below)) (λ c. c ∷ drop 1 C) (split_kinds (kind_at C 0) cs))) all)
transformed_reaches (fuse None) k ps f r = subst (λ i. Reaches i (1 ∷ []) (kinds.fused ps ∷ [])) (sym f) (one_reaches 0 1 (kinds.fused ps) (omega arith))
transformed_reaches (fuse (Some w)) k ps f r =
    subst (λ i. Reaches i (take (w.0 - 1) (lengths_below i ps) ++ 1 ∷ drop (w.0 - 1 + w.1) (lengths_below i ps)) (kinds.fused_parts (Some w) ps)) (sym f) (
      (λ i. take_lengths 0 (w.0 - 1) ps i ++ 1 ∷ drop_lengths 0 (w.0 - 1 + w.1) ps i) ∙ sym (append_lengths 0 (take (w.0 - 1) ps) (kinds.fused (take w.1 (drop (w.0 - 1) ps)) ∷ drop (w.0 - 1 + w.1) ps)),
      all_zero (kinds.fused_parts (Some w) ps),
    )
transformed_reaches unroll_full k ps f r =
    let ks : Part = get_or ps 0 no_part in
    let some : k < length ks = f.1 in
    one_reaches k 0 (settled (take k (map (moved (positions_below k unroll_full)) ks) ++ [])) (length_part unroll_full k ks [] (omega arith))
transformed_reaches (unroll_partial s) k ps f r =
    let ks : Part = get_or ps 0 no_part in
    let some : k < length ks = f.1 in
    one_reaches k 1 (settled (take k (map (moved (positions_below k (unroll_partial s))) ks) ++ (kinds.chunk_kind (kind_at (drop k (map (moved (positions_below k (unroll_partial s))) ks)) 0) s ∷ []))) (length_part (unroll_partial s) k ks (kinds.chunk_kind (kind_at (drop k (map (moved (positions_below k (unroll_partial s))) ks)) 0) s ∷ []) (omega arith))

-- ---- items

pub some_then : (o : Option (List ℕ)) (f : List ℕ → Option (List ℕ)) (es : List ℕ) → if_some o f ≡ Some es → (ds : List ℕ) × ((o ≡ Some ds) × (f ds ≡ Some es))
some_then None f es e = absurd (cc)
some_then (Some ds) f es e = (ds, (refl, e))

pub append_reach : (k : ℕ) (ps qs : List Part) → AllReach k ps → AllReach k qs → AllReach k (ps ++ qs)
append_reach k [] qs h r = r
append_reach k (p ∷ ps) qs h r = (h.0, append_reach k ps qs h.1 r)

part_found : (i k : ℕ) (g : ℕ → Option (List ℕ)) (G : Part → List Part) (ps : List Part) (ds : List ℕ) → AllReach k ps → part_depths i g (lengths_below k ps) ≡ Some ds
    → (i < length ps) × ((k ≤ length (get_or ps i no_part)) × ((bs : List ℕ) × ((g (length (get_or ps i no_part) - k) ≡ Some bs) × (Reaches k bs (G (get_or ps i no_part)) → Reaches k ds (kinds.at_part i G ps)))))
part_found i k g G [] ds r e = absurd (cc)
part_found zero k g G (p ∷ ps) ds r e =
    let q = some_then (g (length p - k)) (λ bs. Some (bs ++ lengths_below k ps)) ds e in
    let is : q.0 ++ lengths_below k ps ≡ ds = let f : Some (q.0 ++ lengths_below k ps) ≡ Some ds = q.1.1 in cc in
    (omega arith, (r.0, (q.0, (q.1.0, (λ h. (sym is ∙ (ap (λ bs. bs ++ lengths_below k ps) h.0 ∙ sym (append_lengths k (G p) ps)), append_reach k (G p) ps h.1 r.1))))))
part_found (suc i) k g G (p ∷ ps) ds r e =
    let q = some_then (part_depths i g (lengths_below k ps)) (λ bs. Some ((length p - k) ∷ bs)) ds e in
    let is : (length p - k) ∷ q.0 ≡ ds = let f : Some ((length p - k) ∷ q.0) ≡ Some ds = q.1.1 in cc in
    let w = part_found i k g G ps q.0 r.1 q.1.0 in (
      let l : i < length ps = w.0 in omega arith,
      (
        w.1.0,
        (
          w.1.1.0,
          (
            w.1.1.1.0,
            (λ h.
                let rest : Reaches k q.0 (kinds.at_part i G ps) = w.1.1.1.1 h in
                (sym is ∙ ap (λ bs. (length p - k) ∷ bs) rest.0, (r.0, rest.1))),
          ),
        ),
      ),
    )

length_left : (k : ℕ) (X : Part) → k ≤ length X → length (settled (take k X)) ≡ k
length_left k X l = length_kinds (moved (position_up_to (length (take k X)))) (take k X) ∙ taken k X l
  where
    taken : (k : ℕ) (X : Part) → k ≤ length X → length (take k X) ≡ k
    taken zero X l = refl
    taken (suc k) [] l = absurd (omega arith)
    taken (suc k) (x ∷ X) l = ap (λ n. suc n) (taken k X (omega arith))

nested_reaches : (j k r : ℕ) (X : Part) (cs : List ℕ) (qs : List Part) → r ≡ k + suc j → r ≤ length X → Reaches r cs qs → Reaches k (nested_depths (suc j) cs) (as_one_part r X qs)
nested_reaches j k r X [] [] e l h = one_reaches k (suc j) (settled (take r X)) (length_left r X l ∙ e)
nested_reaches j k r X [] (q ∷ qs) e l h = absurd (let c : [] ≡ lengths_below r (q ∷ qs) = h.0 in cc)
nested_reaches j k r X (c ∷ cs) [] e l h = absurd (let d : c ∷ cs ≡ [] = h.0 in cc)
nested_reaches j k r X (c ∷ []) (q ∷ []) e l h =
    let d : c ∷ [] ≡ (length q - r) ∷ [] = h.0 in
    let is : c ≡ length q - r = cc in
    let far : r ≤ length q = h.1.0 in
    one_reaches k (suc j + c) q (omega arith)
nested_reaches j k r X (c ∷ []) (q ∷ p ∷ qs) e l h = absurd (let d : c ∷ [] ≡ (length q - r) ∷ (length p - r) ∷ lengths_below r qs = h.0 in cc)
nested_reaches j k r X (c ∷ b ∷ cs) (q ∷ []) e l h = absurd (let d : c ∷ b ∷ cs ≡ (length q - r) ∷ [] = h.0 in cc)
nested_reaches j k r X (c ∷ b ∷ cs) (q ∷ p ∷ qs) e l h = one_reaches k (suc j) (settled (take r X)) (length_left r X l ∙ e)

below_found : (j k r : ℕ) (f : List ℕ → Option (List ℕ)) (g : ℕ → List Part → List Part) (X : Part) (bs : List ℕ) → r ≡ k + j → k ≤ length X → below_depths j f (length X - k) ≡ Some bs
    → (r ≤ length X) × ((cs : List ℕ) × ((f ((length X - r) ∷ []) ≡ Some cs) × (Reaches r cs (g r (X ∷ [])) → Reaches k bs (kinds.below_loops j k g X))))
below_found j k r f g X bs e l h = by (nat_le j (length X - k)) refl h
  where
    by : (b : Bool) → nat_le j (length X - k) ≡ b → (if b then if_some (f ((length X - k - j) ∷ [])) (λ cs. Some (nested_depths j cs)) else None) ≡ Some bs
        → (r ≤ length X) × ((cs : List ℕ) × ((f ((length X - r) ∷ []) ≡ Some cs) × (Reaches r cs (g r (X ∷ [])) → Reaches k bs (kinds.below_loops j k g X))))
    by false d h = absurd (cc)
    by true d h =
        let q = some_then (f ((length X - k - j) ∷ [])) (λ cs. Some (nested_depths j cs)) bs h in
        let is : nested_depths j q.0 ≡ bs = let z : Some (nested_depths j q.0) ≡ Some bs = q.1.1 in cc in
        let enough : j ≤ length X - k = leb-true j (length X - k) d in
        let same : length X - k - j ≡ length X - r = omega arith in
        let far : r ≤ length X = omega arith in
        (far, (q.0, (subst (λ a. f (a ∷ []) ≡ Some q.0) same q.1.0, (λ w. subst (λ z. Reaches k z (kinds.below_loops j k g X)) is (nested j r q.0 e far w)))))
      where
        nested : (j r : ℕ) (cs : List ℕ) → r ≡ k + j → r ≤ length X → Reaches r cs (g r (X ∷ [])) → Reaches k (nested_depths j cs) (kinds.below_loops j k g X)
        nested zero r cs e far w = subst (λ m. Reaches m cs (g m (X ∷ []))) (let s : r ≡ k = omega arith in s) w
        nested (suc j) r cs e far w = subst (λ m. Reaches k (nested_depths (suc j) cs) (as_one_part m X (g m (X ∷ [])))) e (nested_reaches j k r X cs (g r (X ∷ [])) e far w)

-- what an item finds, at a place and below so many loops
abbrev ItemFound : ℕ → ℕ → ℕ → (List ℕ → Option (List ℕ)) → (ℕ → List Part → List Part) → List Part → List ℕ → List Part → Type 0
ItemFound i k r f g ps ds out =
    (i < length ps) × ((r ≤ length (get_or ps i no_part)) × ((cs : List ℕ) × ((f ((length (get_or ps i no_part) - r) ∷ []) ≡ Some cs) × (Reaches r cs (g r (get_or ps i no_part ∷ [])) → Reaches k ds out))))

item_found : (i j k r : ℕ) (f : List ℕ → Option (List ℕ)) (g : ℕ → List Part → List Part) (ps : List Part) (ds : List ℕ) → r ≡ k + j → AllReach k ps → part_depths i (below_depths j f) (lengths_below k ps) ≡ Some ds
    → ItemFound i k r f g ps ds (kinds.at_part i (kinds.below_loops j k g) ps)
item_found i j k r f g ps ds e h d =
    let p = part_found i k (below_depths j f) (kinds.below_loops j k g) ps ds h d in
    let q = below_found j k r f g (get_or ps i no_part) p.1.1.0 e p.1.0 p.1.1.1.0 in
    (p.0, (q.0, (q.1.0, (q.1.1.0, (λ w. p.1.1.1.1 (q.1.1.1 w))))))

position_found : (c : Transformation) (p k : ℕ) (f : List ℕ → Option (List ℕ)) (g : ℕ → List Part → List Part) (ps : List Part) (ds : List ℕ) → AllReach k ps → position_depths c p f (lengths_below k ps) ≡ Some ds
    → ItemFound (place c p) k (loops_round c k p) f g ps ds (kinds.on_position c p k g ps)
position_found (tile ss) p k f g ps ds h d = item_found 0 (p - 1) k (k + (p - 1)) f g ps ds refl h d
position_found (interchange qs) p k f g ps ds h d = item_found 0 (p - 1) k (k + (p - 1)) f g ps ds refl h d
position_found reverse_ p k f g ps ds h d = item_found 0 (p - 1) k (k + (p - 1)) f g ps ds refl h d
position_found (split cs) p k f g ps ds h d = item_found (p - 1) 0 k k f g ps ds (omega arith) h d
position_found (fuse None) p k f g ps ds h d = item_found 0 (p - 1) k (k + (p - 1)) f g ps ds refl h d
position_found (fuse (Some r)) p k f g ps ds h d = item_found (r.0 - 1) (p - 1) k (k + (p - 1)) f g ps ds refl h d
position_found unroll_full p k f g ps ds h d = item_found 0 (p - 1) k (k + (p - 1)) f g ps ds refl h d
position_found (unroll_partial s) p k f g ps ds h d = item_found 0 (p - 1) k (k + (p - 1)) f g ps ds refl h d

first_of_position : (c : Transformation) (p : ℕ) (ps : List Part) → get_or (part_of_position c p ps) 0 no_part ≡ get_or ps (place c p) no_part
first_of_position (tile ss) p ps = refl
first_of_position (interchange qs) p ps = refl
first_of_position reverse_ p ps = refl
first_of_position (split cs) p ps = get_drop (p - 1) ps no_part
first_of_position (fuse None) p ps = refl
first_of_position (fuse (Some r)) p ps = get_drop (r.0 - 1) ps no_part
first_of_position unroll_full p ps = refl
first_of_position (unroll_partial s) p ps = refl

-- ---- breaches

-- only the first part counts
of_first : (d : PlacedPlan) (k : ℕ) (qs : List Part) (X : Part) → IsNoFuse (forget_plan d) → get_or qs 0 no_part ≡ X → HasNone (counts.plan_breaches d k qs) → HasNone (counts.plan_breaches d k (X ∷ []))
of_first (plan (tile ss) at w) k qs X n e h = subst (λ Y. HasNone (counts.plan_breaches (plan (tile ss) at w) k (Y ∷ []))) e h
of_first (plan (interchange ps) at w) k qs X n e h = subst (λ Y. HasNone (counts.plan_breaches (plan (interchange ps) at w) k (Y ∷ []))) e h
of_first (plan reverse_ at w) k qs X n e h = subst (λ Y. HasNone (counts.plan_breaches (plan reverse_ at w) k (Y ∷ []))) e h
of_first (plan (split cs) at w) k qs X n e h = subst (λ Y. HasNone (counts.plan_breaches (plan (split cs) at w) k (Y ∷ []))) e h
of_first (plan (fuse r) at w) k qs X n e h = absurd n
of_first (plan unroll_full at w) k qs X n e h = subst (λ Y. HasNone (counts.plan_breaches (plan unroll_full at w) k (Y ∷ []))) e h
of_first (plan (unroll_partial s) at w) k qs X n e h = subst (λ Y. HasNone (counts.plan_breaches (plan (unroll_partial s) at w) k (Y ∷ []))) e h

-- `fuse` stands below no loop, and any other on a part
abbrev MayStand : Transformation → ℕ → List Part → Type 0
MayStand (fuse r) k ps = k ≡ 0
MayStand _ k ps = 0 < length ps

parts_found : (c : Transformation) (at k : ℕ) (ps : List Part) → ArgumentFits c → MayStand c k ps → AllReach k ps → all_at_least (takes c) (lengths_below k ps) ≡ true → HasNone (counts.taken_breaches c at k ps) → FindsParts c k ps
parts_found (tile ss) at k ps fit some r least none =
    let a : length ss ≤ length (get_or ps 0 no_part) - k = first_least (length ss) k ps some least in
    let b : k ≤ length (get_or ps 0 no_part) = first_reach k ps some r in
    (some, (fit, omega arith, none_if (depend_on_another k (length ss) (get_or ps 0 no_part)) L8 at none))
parts_found (interchange qs) at k ps fit some r least none =
    let a : length qs ≤ length (get_or ps 0 no_part) - k = first_least (length qs) k ps some least in
    let b : k ≤ length (get_or ps 0 no_part) = first_reach k ps some r in
    (some, (fit, omega arith, none_if (depend_on_another k (length qs) (get_or ps 0 no_part)) L8 at none))
parts_found (fuse x) at k ps fit may r least none = may
parts_found reverse_ at k ps fit some r least none = let a : 1 ≤ length (get_or ps 0 no_part) - k = first_least 1 k ps some least in (some, omega arith)
parts_found (split cs) at k ps fit some r least none = let a : 1 ≤ length (get_or ps 0 no_part) - k = first_least 1 k ps some least in (some, omega arith)
parts_found unroll_full at k ps fit some r least none = let a : 1 ≤ length (get_or ps 0 no_part) - k = first_least 1 k ps some least in (some, omega arith)
parts_found (unroll_partial s) at k ps fit some r least none = let a : 1 ≤ length (get_or ps 0 no_part) - k = first_least 1 k ps some least in (some, omega arith)

item_may : (c : Transformation) (at k : ℕ) (w : PlacedItems) (X : Part) → IsNoFuse (forget_plan (plan c at w)) → MayStand c k (X ∷ [])
item_may (tile ss) at k w X n = omega arith
item_may (interchange qs) at k w X n = omega arith
item_may reverse_ at k w X n = omega arith
item_may (split cs) at k w X n = omega arith
item_may (fuse r) at k w X n = absurd n
item_may unroll_full at k w X n = omega arith
item_may (unroll_partial s) at k w X n = omega arith

abbrev pub MayStandAt : PlacedPlan → ℕ → List Part → Type 0
MayStandAt (plan c at w) k ps = MayStand c k ps

items_may : (d : PlacedPlan) (k : ℕ) (X : Part) → IsNoFuse (forget_plan d) → MayStandAt d k (X ∷ [])
items_may (plan c at w) k X n = item_may c at k w X n

-- round all loops
pub may_at_top : (p : PlacedPlan) (ps : List Part) → 0 < length ps → MayStandAt p 0 ps
may_at_top (plan c at w) ps some = top c
  where
    top : (c : Transformation) → MayStand c 0 ps
    top (tile ss) = some
    top (interchange qs) = some
    top reverse_ = some
    top (split cs) = some
    top (fuse r) = refl
    top unroll_full = some
    top (unroll_partial s) = some

-- a directive that finds enough loops
pub enough_loops : (c : Transformation) (ds : List ℕ) (o : Option (List ℕ)) (es : List ℕ) → (if all_at_least (takes c) ds then o else None) ≡ Some es → (all_at_least (takes c) ds ≡ true) × (o ≡ Some es)
enough_loops c ds o es e = by (all_at_least (takes c) ds) refl e
  where
    by : (b : Bool) → all_at_least (takes c) ds ≡ b → (if b then o else None) ≡ Some es → (all_at_least (takes c) ds ≡ true) × (o ≡ Some es)
    by true d e = (d, e)
    by false d e = absurd (cc)

mutual
  plan_found : (p : PlacedPlan) (k : ℕ) (ps : List Part) (es : List ℕ) → ArgumentsFit (forget_plan p) → MayStandAt p k ps → AllReach k ps → depths (forget_plan p) (lengths_below k ps) ≡ Some es
      → HasNone (counts.plan_breaches p k ps) → Finds (forget_plan p) k ps × Reaches k es (plan_kinds (forget_plan p) k ps)
  plan_found (plan c at w) k ps es fit may r e none =
      let q = enough_loops c (lengths_below k ps) (applied_depths c (forget_items w) (transformed_depths c (lengths_below k ps))) es e in
      let f : FindsParts c k ps = parts_found c at k ps fit.0 may r q.0 none.0 in
      let i = items_found c w k (transformed_kinds c k ps) (transformed_depths c (lengths_below k ps)) es fit.1 (transformed_reaches c k ps f r) q.1 none.1 in
      ((f, i.0), i.1)

  items_found : (c : Transformation) (w : PlacedItems) (k : ℕ) (ps : List Part) (ds es : List ℕ) → ItemsFit (forget_items w) → Reaches k ds ps → applied_depths c (forget_items w) ds ≡ Some es
      → HasNone (counts.items_breaches c w k ps) → ItemsFind c (forget_items w) k ps × Reaches k es (applied_kinds c (forget_items w) k ps)
  items_found c none_applied k ps ds es fit r e none = (tt, subst (λ z. Reaches k z ps) (let s : ds ≡ es = cc in s) r)
  items_found c (applied_at p d w) k ps ds es fit r e none =
      let X : Part = get_or ps (place c p) no_part in
      let m : ℕ = loops_round c k p in
      let t = some_then (position_depths c p (depths (forget_plan d)) ds) (applied_depths c (forget_items w)) es e in
      let q = position_found c p k (depths (forget_plan d)) (plan_kinds (forget_plan d)) ps t.0 r.1 (subst (λ z. position_depths c p (depths (forget_plan d)) z ≡ Some t.0) r.0 t.1.0) in
      let inner = plan_found d m (X ∷ []) q.1.1.0 fit.1 (items_may d m X fit.0) (q.1.0, tt) q.1.1.1.0
      (of_first d m (part_of_position c p ps) X fit.0 (first_of_position c p ps) none.0) in
      let rest = items_found c w k (kinds.on_position c p k (plan_kinds (forget_plan d)) ps) t.0 es fit.2 (q.1.1.1.1 inner.1) t.1.1 none.1 in
      ((q.0, inner.0, rest.0), rest.1)

-- and the parts that it gives are as deep as its depths say
pub rules_give_parts : (p : PlacedPlan) (ps : List Part) (es : List ℕ) → ArgumentsFit (forget_plan p) → MayStandAt p 0 ps → depths (forget_plan p) (lengths_below 0 ps) ≡ Some es
    → HasNone (counts.plan_breaches p 0 ps) → Finds (forget_plan p) 0 ps × (es ≡ lengths_below 0 (plan_kinds (forget_plan p) 0 ps))
rules_give_parts p ps es fit may e none = let r = plan_found p 0 ps es fit may (all_zero ps) e none in (r.0, r.1.0)

pub rules_find_loops : RulesFindLoops
rules_find_loops p ps es fit some e none = (rules_give_parts p ps es fit (may_at_top p ps some) e none).0
