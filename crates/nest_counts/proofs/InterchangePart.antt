-- An interchanged nest has the kinds that interchanging makes of its part's.
use Rattle.std.proofs.Common.{◌≡◌, refl, sym, ap, ◌∙◌, subst, ℕ, zero, suc, ◌+◌, ◌-◌, ◌<◌, ◌≤◌, List, [], ◌∷◌, ◌++◌, map, length, take, drop, Option, Some, None, Bool, true, false, ◌⊎◌, inl, inr, get_or, arith, length-append, length-drop}
use Rattle.std.specs.Prelude.{◌||◌, ◌==◌, nat_le, flat_map, if◌then◌else◌}
use Rattle.std.proofs.lemmas.Bool.{eqb-true, leb-true, leb-false}
use Rattle.c_semantics.specs.Loops.IterationTrees.{Tree, loop, no_trees, members, width, widths, pick, build, at_depth}
use Rattle.c_semantics.specs.Loops.Transformations.{interchange, place_of, any_zero, interchanged}
use Rattle.c_semantics.specs.Structure.Parts.{all_known, and_known}
use Rattle.canonical_nests.specs.declared.nest.CountKind.{CountKind}
use Rattle.canonical_nests.specs.declared.nest.CountKind.TheVariants.{Known, Entry, Depends}
use Rattle.canonical_nests.specs.Kinds as kinds
use Rattle.canonical_nests.specs.Kinds.{Part, depends_on, moved, known_count, settled, kind_at, positions_below, on_positions, first_known, outermost}
use Rattle.canonical_nests.specs.LoopRules.Counts.{depend_on_another}
use Rattle.canonical_nests.specs.LoopRules.Clauses.{is_in}
use Rattle.nest_counts.specs.HasKinds.{flags, IsLoop, turns, child, EachBelow, Related, SameTurns, HasCount, HasKinds}
use Rattle.nest_counts.specs.Plans.{IsOrder}
use Rattle.nest_counts.proofs.Ways.{none_flagged, each_both, each_below, each_above_below, free_of_each, each_of_free, related_split, related_join}
use Rattle.nest_counts.proofs.Built.{length_members, members_same, turns_loop, even_width, width_related}
use Rattle.nest_counts.proofs.Places.{kind_map, kind_drop, known_moved, flags_moved, ComesFrom, flags_add, later_flags, members_add, among_moved, among_append, among_on, known_on, length_flags, length_kinds}
use Rattle.nest_counts.proofs.Kept.{split_at, part_has, count_below, count_moved, Near, near, near_related, each_any}
use Rattle.nest_counts.proofs.Rectangles.{on_no_other, later_none, rectangular, each_all, kind_taken}
use Rattle.nest_counts.proofs.Tile.{IsRect}
use Rattle.nest_counts.proofs.TilePlaces.{one_of}
use Rattle.nest_counts.proofs.Interchange.{new_widths, new_nest, nest_or_none, EachSome, no_zero_if, no_zero, old_some, heads_at, interchanged_below, interchanged_taken, first_loop, first_same, width_of, turns_new, new_at, length_new}

-- ---- positions

module _ (k : ℕ) (ps : List ℕ) (order : IsOrder ps) where
  pub order_low : (p : ℕ) → p ≤ k → ComesFrom (positions_below k (interchange ps)) p p
  order_low p l r = by (nat_le r k) refl (nat_le (r - k) (length ps)) refl
    where
      by : (b : Bool) → nat_le r k ≡ b → (c : Bool) → nat_le (r - k) (length ps) ≡ c
          → is_in p (if b then r ∷ [] else map (λ q. k + q) (if c then (place_of (r - k) ps + 1) ∷ [] else (r - k) ∷ [])) ≡ (p == r)
      by true e c d = one_of p r p r (λ s. s) (λ s. s)
      by false e true d =
          let far : k < r = leb-false r k e in
          one_of p (k + (place_of (r - k) ps + 1)) p r (λ s. absurd (omega arith)) (λ s. absurd (omega arith))
      by false e false d =
          let far : k < r = leb-false r k e in
          one_of p (k + (r - k)) p r (λ s. omega arith) (λ s. omega arith)

  pub order_taken : (j : ℕ) → j < length ps → ComesFrom (positions_below k (interchange ps)) (suc (k + j)) (k + get_or ps j 0)
  order_taken j l r = by (nat_le r k) refl (nat_le (r - k) (length ps)) refl
    where
      w : (0 < get_or ps j 0) × (get_or ps j 0 ≤ length ps)
      w = order.within j l

      low : 0 < get_or ps j 0
      low = w.0

      high : get_or ps j 0 ≤ length ps
      high = w.1

      by : (b : Bool) → nat_le r k ≡ b → (c : Bool) → nat_le (r - k) (length ps) ≡ c
          → is_in (suc (k + j)) (if b then r ∷ [] else map (λ q. k + q) (if c then (place_of (r - k) ps + 1) ∷ [] else (r - k) ∷ [])) ≡ ((k + get_or ps j 0) == r)
      by true e c d =
          let close : r ≤ k = leb-true r k e in
          one_of (suc (k + j)) r (k + get_or ps j 0) r (λ s. absurd (omega arith)) (λ s. absurd (omega (arith, low)))
      by false e true d =
          let far : k < r = leb-false r k e in
          let near' : r - k ≤ length ps = leb-true (r - k) (length ps) d in
          let f = order.found (r - k) (omega arith) near' in
          one_of (suc (k + j)) (k + (place_of (r - k) ps + 1)) (k + get_or ps j 0) r
          (λ s.
          let same : place_of (r - k) ps ≡ j = omega arith in
          let at : get_or ps j 0 ≡ r - k = ap (λ i. get_or ps i 0) (sym same) ∙ f.1 in
          omega arith)
          (λ s.
          let at : get_or ps j 0 ≡ r - k = omega arith in
          let same : place_of (r - k) ps ≡ j = ap (λ i. place_of i ps) (sym at) ∙ order.once j l in
          omega arith)
      by false e false d =
          let far : k < r = leb-false r k e in
          let further : length ps < r - k = leb-false (r - k) (length ps) d in
          one_of (suc (k + j)) (k + (r - k)) (k + get_or ps j 0) r (λ s. absurd (omega arith)) (λ s. absurd (omega (arith, high)))

  pub order_high : (p : ℕ) → k + length ps < p → ComesFrom (positions_below k (interchange ps)) p p
  order_high p l r = by (nat_le r k) refl (nat_le (r - k) (length ps)) refl
    where
      by : (b : Bool) → nat_le r k ≡ b → (c : Bool) → nat_le (r - k) (length ps) ≡ c
          → is_in p (if b then r ∷ [] else map (λ q. k + q) (if c then (place_of (r - k) ps + 1) ∷ [] else (r - k) ∷ [])) ≡ (p == r)
      by true e c d = one_of p r p r (λ s. s) (λ s. s)
      by false e true d =
          let far : k < r = leb-false r k e in
          let near' : r - k ≤ length ps = leb-true (r - k) (length ps) d in
          let f = order.found (r - k) (omega arith) near' in
          let small : place_of (r - k) ps < length ps = f.0 in
          one_of p (k + (place_of (r - k) ps + 1)) p r (λ s. absurd (omega arith)) (λ s. absurd (omega arith))
      by false e false d =
          let far : k < r = leb-false r k e in
          one_of p (k + (r - k)) p r (λ s. omega arith) (λ s. omega arith)

-- ---- the kinds

pub order_first : (taken C : Part) (ps : List ℕ) (X : Part) → 0 < length ps
    → kind_at (outermost taken (map (λ p. kind_at C (p - 1)) ps) ++ X) 0 ≡ first_known (all_known (map known_count taken)) (kind_at C (get_or ps 0 0 - 1)) taken
order_first taken C [] X l = absurd (omega arith)
order_first taken C (p ∷ ps) X l = refl

kind_order : (C : Part) (ps : List ℕ) (X : Part) (j : ℕ) → j < length ps → kind_at (map (λ p. kind_at C (p - 1)) ps ++ X) j ≡ kind_at C (get_or ps j 0 - 1)
kind_order C [] X j l = absurd (omega arith)
kind_order C (p ∷ ps) X zero l = refl
kind_order C (p ∷ ps) X (suc j) l = kind_order C ps X j (omega arith)

pub order_later : (taken C : Part) (ps : List ℕ) (X : Part) (j : ℕ) → suc j < length ps
    → kind_at (outermost taken (map (λ p. kind_at C (p - 1)) ps) ++ X) (suc j) ≡ kind_at C (get_or ps (suc j) 0 - 1)
order_later taken C [] X j l = absurd (omega arith)
order_later taken C (p ∷ ps) X j l = kind_order C ps X j (omega arith)

kind_past : (C : Part) (ps : List ℕ) (X : Part) (j i : ℕ) → j ≡ length ps + i → kind_at (map (λ p. kind_at C (p - 1)) ps ++ X) j ≡ kind_at X i
kind_past C [] X j i e = ap (kind_at X) (let s : j ≡ i = omega arith in s)
kind_past C (p ∷ ps) X zero i e = absurd (omega arith)
kind_past C (p ∷ ps) X (suc j) i e = kind_past C ps X j i (omega arith)

pub order_after : (taken C : Part) (ps : List ℕ) (X : Part) (j i : ℕ) → j ≡ length ps + i
    → kind_at (outermost taken (map (λ p. kind_at C (p - 1)) ps) ++ X) j ≡ kind_at X i
order_after taken C [] X j i e = ap (kind_at X) (let s : j ≡ i = omega arith in s)
order_after taken C (p ∷ ps) X zero i e = absurd (omega arith)
order_after taken C (p ∷ ps) X (suc j) i e = kind_past C ps X j i (omega arith)

pub length_order : (taken C : Part) (ps : List ℕ) → length (outermost taken (map (λ p. kind_at C (p - 1)) ps)) ≡ length ps
length_order taken C [] = refl
length_order taken C (p ∷ ps) = ap (λ n. suc n) (by ps)
  where
    by : (qs : List ℕ) → length (map (λ p. kind_at C (p - 1)) qs) ≡ length qs
    by [] = refl
    by (q ∷ qs) = ap (λ n. suc n) (by qs)

-- ---- all counts known

known_step : (t : CountKind) (ts : Part) (o : Option ℕ) (cs : List ℕ) → known_count t ≡ o → all_known (o ∷ map known_count ts) ≡ Some cs
    → ((ds : List ℕ) → all_known (map known_count ts) ≡ Some ds → (length ds ≡ length ts) × ((i : ℕ) → i < length ts → known_count (kind_at ts i) ≡ Some (get_or ds i 0)))
    → (length cs ≡ suc (length ts)) × ((i : ℕ) → i < suc (length ts) → known_count (kind_at (t ∷ ts) i) ≡ Some (get_or cs i 0))
known_step t ts None cs d e rest = absurd (cc)
known_step t ts (Some c) cs d e rest = by (all_known (map known_count ts)) refl e
  where
    at : (ds : List ℕ) → ((i : ℕ) → i < length ts → known_count (kind_at ts i) ≡ Some (get_or ds i 0)) → (i : ℕ) → i < suc (length ts) → known_count (kind_at (t ∷ ts) i) ≡ Some (get_or (c ∷ ds) i 0)
    at ds q zero l = d
    at ds q (suc i) l = q i (omega arith)

    by : (r : Option (List ℕ)) → all_known (map known_count ts) ≡ r → and_known c r ≡ Some cs
        → (length cs ≡ suc (length ts)) × ((i : ℕ) → i < suc (length ts) → known_count (kind_at (t ∷ ts) i) ≡ Some (get_or cs i 0))
    by None f e = absurd (cc)
    by (Some ds) f e =
        let q = rest ds f in
        let is : c ∷ ds ≡ cs = cc in (
          sym (ap length is) ∙ ap (λ n. suc n) q.0,
          (λ i l. at ds q.1 i l ∙ ap (λ xs. Some (get_or xs i 0)) is),
        )

known_each : (ts : Part) (cs : List ℕ) → all_known (map known_count ts) ≡ Some cs → (length cs ≡ length ts) × ((i : ℕ) → i < length ts → known_count (kind_at ts i) ≡ Some (get_or cs i 0))
known_each [] cs e = (ap length (let s : cs ≡ [] = cc in s), (λ i l. absurd (omega arith)))
known_each (t ∷ ts) cs e = known_step t ts (known_count t) cs refl e (known_each ts)

zero_at : (cs : List ℕ) → any_zero cs ≡ true → (z : ℕ) × ((z < length cs) × (get_or cs z 0 ≡ 0))
zero_at [] e = absurd (cc)
zero_at (c ∷ cs) e = by (c == 0) refl e (zero_at cs)
  where
    by : (b : Bool) → (c == 0) ≡ b → (if b then true else any_zero cs) ≡ true → (any_zero cs ≡ true → (z : ℕ) × ((z < length cs) × (get_or cs z 0 ≡ 0)))
        → (z : ℕ) × ((z < suc (length cs)) × (get_or (c ∷ cs) z 0 ≡ 0))
    by true d e rest = (0, (omega arith, eqb-true c 0 d))
    by false d e rest = let q = rest e in (suc q.0, (let l : q.0 < length cs = q.1.0 in omega arith, q.1.1))

-- ---- what several counts depend on

flat_has : (p : ℕ) (ts : Part) (i : ℕ) → i < length ts → is_in p (depends_on (kind_at ts i)) ≡ true → is_in p (flat_map depends_on ts) ≡ true
flat_has p [] i l e = absurd (omega arith)
flat_has p (t ∷ ts) zero l e = among_append p (depends_on t) (flat_map depends_on ts) ∙ ap (λ b. b || is_in p (flat_map depends_on ts)) e
flat_has p (t ∷ ts) (suc i) l e = among_append p (depends_on t) (flat_map depends_on ts) ∙ by (is_in p (depends_on t)) (flat_has p ts i (omega arith) e)
  where
    by : (b : Bool) → is_in p (flat_map depends_on ts) ≡ true → (b || is_in p (flat_map depends_on ts)) ≡ true
    by true h = refl
    by false h = h

flat_from : (p : ℕ) (ts : Part) → is_in p (flat_map depends_on ts) ≡ true → (i : ℕ) × ((i < length ts) × (is_in p (depends_on (kind_at ts i)) ≡ true))
flat_from p [] e = absurd (cc)
flat_from p (t ∷ ts) e = by (is_in p (depends_on t)) refl (sym (among_append p (depends_on t) (flat_map depends_on ts)) ∙ e) (flat_from p ts)
  where
    by : (b : Bool) → is_in p (depends_on t) ≡ b → (b || is_in p (flat_map depends_on ts)) ≡ true
        → (is_in p (flat_map depends_on ts) ≡ true → (i : ℕ) × ((i < length ts) × (is_in p (depends_on (kind_at ts i)) ≡ true)))
        → (i : ℕ) × ((i < suc (length ts)) × (is_in p (depends_on (kind_at (t ∷ ts) i)) ≡ true))
    by true d h rest = (0, (omega arith, d))
    by false d h rest = let q = rest h in (suc q.0, (let l : q.0 < length ts = q.1.0 in omega arith, q.1.1))

-- ways that agree on all of them
related_union : (n : ℕ) (R : ℕ → Tree → Tree → Type 0) (k : ℕ) (F : ℕ → ℕ → Bool) (B : ℕ → Bool) (t u : Tree) → ((i : ℕ) → i < n → Related (R i) (members k (F i)) t u)
    → ((a : ℕ) → a < k → B a ≡ true → (i : ℕ) × ((i < n) × (F i a ≡ true))) → ((a i : ℕ) → a < k → i < n → F i a ≡ true → B a ≡ true)
    → Related (λ x y. (i : ℕ) → i < n → R i x y) (members k B) t u
related_union n R zero F B t u h from to = h
related_union n R (suc k) F B t u h from to = (
  (λ is l m. let q = from 0 (omega arith) is in (h q.0 q.1.0).0 q.1.1 l m),
  (λ a b l m e. related_union n R k (λ i c. F i (suc c)) (λ c. B (suc c)) (child t a) (child u b)
      (λ i li. (h i li).1 a b l m (λ f. e (to 0 i (omega arith) li f)))
      (λ c lc. from (suc c) (omega (arith, lc))) (λ c i lc. to (suc c) i (omega (arith, lc)))),
)

-- ---- trees

length_taken : (n : ℕ) (cs : Part) → n ≤ length cs → length (take n cs) ≡ n
length_taken zero cs l = refl
length_taken (suc n) [] l = absurd (omega arith)
length_taken (suc n) (c ∷ cs) l = ap (λ m. suc m) (length_taken n cs (omega arith))

flag_at : (n i : ℕ) (f : ℕ → Bool) → i < n → get_or (members n f) i false ≡ f i
flag_at zero i f l = absurd (omega arith)
flag_at (suc n) zero f l = refl
flag_at (suc n) (suc i) f l = flag_at n i (λ j. f (suc j)) (omega arith)

new_same : (ps : List ℕ) (x y : Tree) → ((j : ℕ) → j < length ps → width x (get_or ps j 0 - 1) ≡ width y (get_or ps j 0 - 1)) → new_widths ps x ≡ new_widths ps y
new_same [] x y h = refl
new_same (p ∷ ps) x y h = (λ i. h 0 (omega arith) i ∷ new_same ps x y (λ j l. h (suc j) (omega (arith, l))) i)

known_free : (K : CountKind) (v : ℕ) → known_count K ≡ Some v → depends_on K ≡ []
known_free (Known c) v e = refl
known_free Entry v e = refl
known_free (Depends ps) v e = absurd (cc)

each_interchanged : (P : Tree → Type 0) (ps : List ℕ) (order : IsOrder ps) (m : ℕ) (x : Tree) → IsRect (length ps) x → EachBelow P (length ps + m) x → EachBelow P (length ps + m) (interchanged ps x)
each_interchanged P ps order m x rect h =
    let n : ℕ = length ps in
    let len : length (none_flagged n) ≡ n = length_members n (λ i. false) in
    each_above_below P n m (n + m) (interchanged ps x) refl
    (each_of_free (EachBelow P m) n (interchanged ps x)
    (interchanged_below ps order x x rect rect (λ y z. EachBelow P m y) (none_flagged n) (none_flagged n) len len
    (λ j l.
    let w = order.within j l in
    let low : 0 < get_or ps j 0 = w.0 in
    let high : get_or ps j 0 ≤ n = w.1 in
    flag_at n j (λ i. false) l ∙ sym (flag_at n (get_or ps j 0 - 1) (λ i. false) (omega arith)))
    (free_of_each (EachBelow P m) n x x (each_below P n m (n + m) x refl h))))

module _ (k : ℕ) (ps : List ℕ) (ks : Part) (t : Tree) (has : HasKinds ks t) (enough : k + length ps ≤ length ks) (order : IsOrder ps) (apart : depend_on_another k (length ps) ks ≡ false) where
  old_place : (j : ℕ) → j < length ps → get_or ps j 0 - 1 < length ps
  old_place j l =
      let w = order.within j l in
      let low : 0 < get_or ps j 0 = w.0 in
      let high : get_or ps j 0 ≤ length ps = w.1 in
      omega arith

  old_position : (j : ℕ) → j < length ps → k + get_or ps j 0 ≡ suc (k + (get_or ps j 0 - 1))
  old_position j l =
      let w = order.within j l in
      let low : 0 < get_or ps j 0 = w.0 in
      omega arith

  rects : EachBelow (IsRect (length ps)) k t
  rects = rectangular k (length ps) ks t has enough apart

  low_flags : (K : CountKind) → flags k (depends_on (moved (positions_below k (interchange ps)) K)) ≡ flags k (depends_on K)
  low_flags K = flags_moved (positions_below k (interchange ps)) k K (λ p z q. order_low k ps order p q)

  near_taken : (q : ℕ) → q < length ps → Related (Related SameTurns (none_flagged q)) (flags k (depends_on (kind_at ks (k + q)))) t t
  near_taken q l =
      subst (λ bs. Related (Related SameTurns bs) (flags k (depends_on (kind_at ks (k + q)))) t t) (later_none k (length ps) ks enough apart q q l (omega arith))
      (near_related (kind_at ks (k + q)) k q (k + q) t refl (has (k + q) (omega (arith, l, enough))))

  near_each : (q : ℕ) → q < length ps → EachBelow (Near (kind_at ks (k + q)) q) k t
  near_each q l = near (kind_at ks (k + q)) k q (k + q) t refl (has (k + q) (omega (arith, l, enough)))

  taken_none : (j i : ℕ) → j < length ps → i < length ps → (i ≡ j → ⊥) → is_in (suc (k + i)) (depends_on (moved (positions_below k (interchange ps)) (kind_at ks (k + (get_or ps j 0 - 1))))) ≡ false
  taken_none j i l m ne =
      let w = order.within i m in
      let low : 0 < get_or ps i 0 = w.0 in
      let high : get_or ps i 0 ≤ length ps = w.1 in
      let w' = order.within j l in
      let low' : 0 < get_or ps j 0 = w'.0 in
      among_moved (positions_below k (interchange ps)) (suc (k + i)) (k + get_or ps i 0) (kind_at ks (k + (get_or ps j 0 - 1))) (order_taken k ps order i m)
      ∙ on_no_other k (length ps) ks enough apart (get_or ps j 0 - 1) (k + get_or ps i 0) (old_place j l) (omega arith) (omega arith)
      (λ s. ne (sym (order.once i m) ∙ (ap (λ p. place_of p ps) (let e : get_or ps i 0 ≡ get_or ps j 0 = omega arith in e) ∙ order.once j l)))

  later_count : (j : ℕ) → 0 < j → j < length ps → HasCount (moved (positions_below k (interchange ps)) (kind_at ks (k + (get_or ps j 0 - 1)))) (k + j) (at_depth k (interchanged ps) t)
  later_count j later l =
      let q : ℕ = get_or ps j 0 - 1 in
      let K : CountKind = kind_at ks (k + q) in
      count_below (λ x. IsRect (length ps) x × Near K q x) (Related SameTurns (none_flagged q)) (moved (positions_below k (interchange ps)) K) (interchanged ps) k j (k + j) t (flags k (depends_on K)) (none_flagged j) refl
      (each_both (IsRect (length ps)) (Near K q) k t rects (near_each q (old_place j l)))
      (λ x p. each_of_free IsLoop j (interchanged ps x)
      (interchanged_taken ps order x x p.0 p.0 (λ y z. IsLoop y) (λ y z. IsLoop y) (λ a b. Unit {0}) (λ a b. Unit {0}) (λ a b f g h. tt) (λ a b f g h. tt) j l later (λ a b z. tt) (free_of_each IsLoop q x x p.1.0)))
      (λ v e x p. each_of_free (λ u. turns u ≡ v) j (interchanged ps x)
      (interchanged_taken ps order x x p.0 p.0 (λ y z. turns y ≡ v) (λ y z. turns y ≡ v) (λ a b. a ≡ v) (λ a b. a ≡ v) (λ a b f g h. sym (turns_loop a f) ∙ h) (λ a b f g h. turns_loop a f ∙ h) j l later
      (λ a b z. z) (free_of_each (λ u. turns u ≡ v) q x x (p.1.1 v (sym (known_moved (positions_below k (interchange ps)) K) ∙ e)))))
      (length_flags k (depends_on K))
      (flags_add k j (k + j) (depends_on (moved (positions_below k (interchange ps)) K)) refl
      ∙ (λ i. low_flags K i ++ members_same j (λ a. is_in (suc (k + a)) (depends_on (moved (positions_below k (interchange ps)) K))) (λ a. false)
      (λ a m. taken_none j a l (omega (arith, m, l)) (λ e. absurd (omega (arith, m, e)))) i))
      (near_taken q (old_place j l))
      (λ x y p r h. interchanged_taken ps order x y p.0 r.0 SameTurns SameTurns (λ a b. a ≡ b) (λ a b. a ≡ b) (λ a b f g z. sym (turns_loop a f) ∙ (z ∙ turns_loop b g)) (λ a b f g z. turns_loop a f ∙ (z ∙ sym (turns_loop b g))) j l later
      (λ a b z. z) h)

  -- ---- the first loop

  abbrev AllNear : Tree → Type 0
  AllNear x = (i : ℕ) → i < length ps → Near (kind_at ks (k + i)) i x

  all_near : EachBelow (λ x. IsRect (length ps) x × AllNear x) k t
  all_near = each_both (IsRect (length ps)) AllNear k t rects (each_all (λ i. Near (kind_at ks (k + i)) i) (length ps) k t near_each)

  wide_count : (L : CountKind) (v : ℕ) → known_count L ≡ Some v → ((x : Tree) → IsRect (length ps) x → AllNear x → turns (interchanged ps x) ≡ v) → HasCount L (k + 0) (at_depth k (interchanged ps) t)
  wide_count L v is wide =
      count_below (λ x. IsRect (length ps) x × AllNear x) (λ x y. Unit {0}) L (interchanged ps) k 0 (k + 0) t (none_flagged k) [] refl all_near
      (λ x p. first_loop ps x order.some)
      (λ w e x p. wide x p.0 p.1 ∙ (let s : v ≡ w = cc in s))
      (length_members k (λ a. false))
      (ap (flags (k + 0)) (known_free L v is) ∙ flags_add k 0 (k + 0) [] refl)
      (free_of_each (λ x. Unit {0}) k t t (each_any (λ x. Unit {0}) k t (λ x. tt)))
      (λ x y p q r. wide x p.0 p.1 ∙ sym (wide y q.0 q.1))

  module _ (cs : List ℕ) (many : length cs ≡ length ps) (each : (i : ℕ) → i < length ps → known_count (kind_at ks (k + i)) ≡ Some (get_or cs i 0)) where
    zero_wide : any_zero cs ≡ true → (x : Tree) → IsRect (length ps) x → AllNear x → turns (interchanged ps x) ≡ 0
    zero_wide e x rect all = by (nest_or_none ps x)
      where
        by : (interchanged ps x ≡ loop no_trees) × (any_zero (new_widths ps x) ≡ true) ⊎ (interchanged ps x ≡ new_nest ps x) × EachSome (new_widths ps x) → turns (interchanged ps x) ≡ 0
        by (inl (d, z)) = ap turns d
        by (inr (d, s)) =
            let q = zero_at cs e in
            let z : ℕ = q.0 in
            let lz : z < length ps = let m : z < length cs = q.1.0 in omega arith in
            let ws : List ℕ = widths (length ps) x in
            let lw : length ws ≡ length ps = length_members (length ps) (width x) in
            let ln : length (none_flagged z) ≡ z = length_members z (λ i. false) in
            let near_z : EachBelow (λ u. turns u ≡ 0) z x = (all z lz).1 0 (each z lz ∙ ap Some q.1.1) in
            let none : get_or ws z 0 ≡ 0 =
            heads_at (λ a b. a ≡ 0) z ws ws
            (width_related (λ y u. turns y ≡ 0) (λ a b. a ≡ 0) (λ a b f g h. sym (turns_loop a f) ∙ h) (none_flagged z) ws ws (pick x) (pick x) (omega (arith, ln, lz, lw)) (omega (arith, ln, lz, lw))
            (subst (λ y. Related (λ y u. turns y ≡ 0) (none_flagged z) y (build ws (pick x))) rect (subst (Related (λ y u. turns y ≡ 0) (none_flagged z) x) rect (free_of_each (λ u. turns u ≡ 0) z x x near_z))))
            (old_some ps order x s) (old_some ps order x s) in
            let some : 0 < get_or ws z 0 = old_some ps order x s z (omega (arith, lz, lw)) in
            absurd (omega (arith, none, some))

    some_wide : any_zero cs ≡ false → (x : Tree) → IsRect (length ps) x → AllNear x → turns (interchanged ps x) ≡ get_or cs (get_or ps 0 0 - 1) 0
    some_wide e x rect all = by (nest_or_none ps x)
      where
        width_is : (i : ℕ) → i < length ps → width x i ≡ get_or cs i 0
        width_is i l = width_of (λ a. get_or cs a 0) i x (λ a m. (all a (omega (arith, m, l))).1 (get_or cs a 0) (each a (omega (arith, m, l)))) (λ a m. no_zero cs e a (omega (arith, m, l, many)))

        new_is : (j : ℕ) → j < length ps → get_or (new_widths ps x) j 0 ≡ get_or cs (get_or ps j 0 - 1) 0
        new_is j l = new_at ps x j l ∙ width_is (get_or ps j 0 - 1) (old_place j l)

        by : (interchanged ps x ≡ loop no_trees) × (any_zero (new_widths ps x) ≡ true) ⊎ (interchanged ps x ≡ new_nest ps x) × EachSome (new_widths ps x) → turns (interchanged ps x) ≡ get_or cs (get_or ps 0 0 - 1) 0
        by (inl (d, z)) =
            let none : any_zero (new_widths ps x) ≡ false = no_zero_if (new_widths ps x) (λ j l.
            let l' : j < length ps = let n : length (new_widths ps x) ≡ length ps = length_new ps x in omega (arith, l) in
            subst (λ w. 0 < w) (sym (new_is j l')) (no_zero cs e (get_or ps j 0 - 1) (let q : get_or ps j 0 - 1 < length ps = old_place j l' in omega (arith, q, many)))) in
            absurd (cc)
        by (inr (d, s)) = ap turns d ∙ (turns_new ps x order.some ∙ new_is 0 order.some)

  union_count : (F : List ℕ) → ((p : ℕ) → p ≤ k → is_in p F ≡ true → (i : ℕ) × ((i < length ps) × (is_in p (depends_on (kind_at ks (k + i))) ≡ true)))
      → ((p i : ℕ) → p ≤ k → i < length ps → is_in p (depends_on (kind_at ks (k + i))) ≡ true → is_in p F ≡ true)
      → HasCount (on_positions F) (k + 0) (at_depth k (interchanged ps) t)
  union_count F from to =
      count_below (λ x. Unit {0}) (λ x y. (i : ℕ) → i < length ps → Related SameTurns (none_flagged i) x y) (on_positions F) (interchanged ps) k 0 (k + 0) t (flags k (depends_on (on_positions F))) [] refl
      (each_any (λ x. Unit {0}) k t (λ x. tt))
      (λ x p. first_loop ps x order.some)
      (λ v e. absurd (let n : known_count (on_positions F) ≡ None = known_on F in cc))
      (length_flags k (depends_on (on_positions F)))
      (flags_add k 0 (k + 0) (depends_on (on_positions F)) refl)
      (related_union (length ps) (λ i. Related SameTurns (none_flagged i)) k (λ i a. is_in (suc a) (depends_on (kind_at ks (k + i)))) (λ a. is_in (suc a) (depends_on (on_positions F))) t t
      near_taken
      (λ a l e. from (suc a) (omega arith) (sym (among_on (suc a) F) ∙ e))
      (λ a i l m e. among_on (suc a) F ∙ to (suc a) i (omega (arith, l)) m e))
      (λ x y p q r. first_same ps x y order.some (new_same ps x y (λ j l. even_width (get_or ps j 0 - 1) x y (λ a m. r a (let s : get_or ps j 0 - 1 < length ps = old_place j l in omega (arith, m, s))))))

  -- ---- the loops below

  deep_count : (m : ℕ) → k + (length ps + m) < length ks → HasCount (moved (positions_below k (interchange ps)) (kind_at ks (k + (length ps + m)))) (k + (length ps + m)) (at_depth k (interchanged ps) t)
  deep_count m l =
      let K : CountKind = kind_at ks (k + (length ps + m)) in
      let L : CountKind = moved (positions_below k (interchange ps)) K in
      let b : List Bool = later_flags k (length ps) (depends_on K) in
      let c : List Bool = members m (λ a. is_in (suc (k + (length ps + a))) (depends_on K)) in
      let b' : List Bool = later_flags k (length ps) (depends_on L) in
      let lb : length b ≡ length ps = length_members (length ps) (λ a. is_in (suc (k + a)) (depends_on K)) in
      let lb' : length b' ≡ length ps = length_members (length ps) (λ a. is_in (suc (k + a)) (depends_on L)) in
      count_moved K L (interchanged ps) k (length ps + m) (length ps + m) (k + (length ps + m)) (k + (length ps + m)) t (IsRect (length ps)) refl refl (has (k + (length ps + m)) l) rects
      (known_moved (positions_below k (interchange ps)) K) (low_flags K)
      (λ x r h. each_interchanged IsLoop ps order m x r h)
      (λ v x r h. each_interchanged (λ u. turns u ≡ v) ps order m x r h)
      (λ x y p q h.
      let h' : Related (Related SameTurns c) b x y = related_split SameTurns b c x y (subst (λ bs. Related SameTurns bs x y) (members_add (length ps) m (length ps + m) (λ a. is_in (suc (k + a)) (depends_on K)) refl) h) in
      let new : Related (Related SameTurns c) b' (interchanged ps x) (interchanged ps y) =
      interchanged_below ps order x y p q (Related SameTurns c) b b' lb lb' (λ j z.
      flag_at (length ps) j (λ a. is_in (suc (k + a)) (depends_on L)) z
      ∙ (among_moved (positions_below k (interchange ps)) (suc (k + j)) (k + get_or ps j 0) K (order_taken k ps order j z)
      ∙ (ap (λ p. is_in p (depends_on K)) (old_position j z)
      ∙ sym (flag_at (length ps) (get_or ps j 0 - 1) (λ a. is_in (suc (k + a)) (depends_on K)) (old_place j z))))) h' in
      subst (λ bs. Related SameTurns bs (interchanged ps x) (interchanged ps y))
      (sym (members_add (length ps) m (length ps + m) (λ a. is_in (suc (k + a)) (depends_on L)) refl
      ∙ ap (λ e. b' ++ e) (members_same m (λ a. is_in (suc (k + (length ps + a))) (depends_on L)) (λ a. is_in (suc (k + (length ps + a))) (depends_on K))
      (λ a z. among_moved (positions_below k (interchange ps)) (suc (k + (length ps + a))) (suc (k + (length ps + a))) K (order_high k ps order (suc (k + (length ps + a))) (omega arith))))))
      (related_join SameTurns b' c (interchanged ps x) (interchanged ps y) new))

  -- ---- all

  pub interchange_part : HasKinds (settled (take k (map (moved (positions_below k (interchange ps))) ks) ++ kinds.interchanged ps (drop k (map (moved (positions_below k (interchange ps))) ks)))) (at_depth k (interchanged ps) t)
  interchange_part =
      part_has (interchange ps) k ks (kinds.interchanged ps (drop k (map (moved (positions_below k (interchange ps))) ks))) (interchanged ps) t has (omega arith) (λ p z q. order_low k ps order p q) (λ j l. by j l (split_at (length ps) j))
    where
      all : length (drop k (map (moved (positions_below k (interchange ps))) ks)) ≡ length ks - k
      all = let e : length (map (moved (positions_below k (interchange ps))) ks) ≡ length ks = length_kinds (moved (positions_below k (interchange ps))) ks in omega (arith, length-drop k (map (moved (positions_below k (interchange ps))) ks))

      old : (j : ℕ) → kind_at (drop k (map (moved (positions_below k (interchange ps))) ks)) j ≡ moved (positions_below k (interchange ps)) (kind_at ks (k + j))
      old j = kind_drop k (map (moved (positions_below k (interchange ps))) ks) j (k + j) refl ∙ kind_map (moved (positions_below k (interchange ps))) ks (k + j) refl

      total : length (kinds.interchanged ps (drop k (map (moved (positions_below k (interchange ps))) ks))) ≡ length ps + (length ks - k - length ps)
      total =
          let C : Part = drop k (map (moved (positions_below k (interchange ps))) ks) in
          let a : length (outermost (take (length ps) C) (map (λ p. kind_at C (p - 1)) ps)) ≡ length ps = length_order (take (length ps) C) C ps in
          let b : length (drop (length ps) C) ≡ length C - length ps = length-drop (length ps) C in
          let c : length (kinds.interchanged ps C) ≡ length (outermost (take (length ps) C) (map (λ p. kind_at C (p - 1)) ps)) + length (drop (length ps) C) = length-append (outermost (take (length ps) C) (map (λ p. kind_at C (p - 1)) ps)) (drop (length ps) C) in
          omega (arith, all)

      taken_kind : (i : ℕ) → i < length ps → kind_at (take (length ps) (drop k (map (moved (positions_below k (interchange ps))) ks))) i ≡ moved (positions_below k (interchange ps)) (kind_at ks (k + i))
      taken_kind i l = kind_taken (length ps) (drop k (map (moved (positions_below k (interchange ps))) ks)) i l ∙ old i

      taken_many : length (take (length ps) (drop k (map (moved (positions_below k (interchange ps))) ks))) ≡ length ps
      taken_many = length_taken (length ps) (drop k (map (moved (positions_below k (interchange ps))) ks)) (omega (arith, all))

      first : (o : Option (List ℕ)) → all_known (map known_count (take (length ps) (drop k (map (moved (positions_below k (interchange ps))) ks)))) ≡ o
          → HasCount (first_known o (moved (positions_below k (interchange ps)) (kind_at ks (k + (get_or ps 0 0 - 1)))) (take (length ps) (drop k (map (moved (positions_below k (interchange ps))) ks)))) (k + 0) (at_depth k (interchanged ps) t)
      first None e =
          union_count (flat_map depends_on (take (length ps) (drop k (map (moved (positions_below k (interchange ps))) ks))))
          (λ p l h.
          let q = flat_from p (take (length ps) (drop k (map (moved (positions_below k (interchange ps))) ks))) h in
          let lq : q.0 < length ps = let z : q.0 < length (take (length ps) (drop k (map (moved (positions_below k (interchange ps))) ks))) = q.1.0 in omega (arith, z, taken_many) in
          (q.0, (lq, sym (among_moved (positions_below k (interchange ps)) p p (kind_at ks (k + q.0)) (order_low k ps order p l)) ∙ (ap (λ K. is_in p (depends_on K)) (sym (taken_kind q.0 lq)) ∙ q.1.1))))
          (λ p i l m h.
          flat_has p (take (length ps) (drop k (map (moved (positions_below k (interchange ps))) ks))) i (omega (arith, m, taken_many))
          (ap (λ K. is_in p (depends_on K)) (taken_kind i m) ∙ (among_moved (positions_below k (interchange ps)) p p (kind_at ks (k + i)) (order_low k ps order p l) ∙ h)))
      first (Some cs) e = with_counts cs (known_each (take (length ps) (drop k (map (moved (positions_below k (interchange ps))) ks))) cs e)
        where
          with_counts : (cs : List ℕ) → (length cs ≡ length (take (length ps) (drop k (map (moved (positions_below k (interchange ps))) ks)))) × ((i : ℕ) → i < length (take (length ps) (drop k (map (moved (positions_below k (interchange ps))) ks))) → known_count (kind_at (take (length ps) (drop k (map (moved (positions_below k (interchange ps))) ks))) i) ≡ Some (get_or cs i 0))
              → HasCount (first_known (Some cs) (moved (positions_below k (interchange ps)) (kind_at ks (k + (get_or ps 0 0 - 1)))) (take (length ps) (drop k (map (moved (positions_below k (interchange ps))) ks)))) (k + 0) (at_depth k (interchanged ps) t)
          with_counts cs q = zeros (any_zero cs) refl
            where
              many : length cs ≡ length ps
              many = q.0 ∙ taken_many

              each : (i : ℕ) → i < length ps → known_count (kind_at ks (k + i)) ≡ Some (get_or cs i 0)
              each i l = sym (known_moved (positions_below k (interchange ps)) (kind_at ks (k + i))) ∙ (ap known_count (sym (taken_kind i l)) ∙ q.1 i (omega (arith, l, taken_many)))

              zeros : (b : Bool) → any_zero cs ≡ b → HasCount (if b then Known 0 else moved (positions_below k (interchange ps)) (kind_at ks (k + (get_or ps 0 0 - 1)))) (k + 0) (at_depth k (interchanged ps) t)
              zeros true z = wide_count (Known 0) 0 refl (zero_wide cs many each z)
              zeros false z =
                  wide_count (moved (positions_below k (interchange ps)) (kind_at ks (k + (get_or ps 0 0 - 1)))) (get_or cs (get_or ps 0 0 - 1) 0)
                  (known_moved (positions_below k (interchange ps)) (kind_at ks (k + (get_or ps 0 0 - 1))) ∙ each (get_or ps 0 0 - 1) (old_place 0 order.some)) (some_wide cs many each z)

      by : (j : ℕ) → j < length (kinds.interchanged ps (drop k (map (moved (positions_below k (interchange ps))) ks))) → (j < length ps) ⊎ ((i : ℕ) × (j ≡ length ps + i))
          → HasCount (kind_at (kinds.interchanged ps (drop k (map (moved (positions_below k (interchange ps))) ks))) j) (k + j) (at_depth k (interchanged ps) t)
      by zero l (inl m) =
          let C : Part = drop k (map (moved (positions_below k (interchange ps))) ks) in
          subst (λ K. HasCount K (k + 0) (at_depth k (interchanged ps) t))
          (sym (order_first (take (length ps) C) C ps (drop (length ps) C) m ∙ ap (λ K. first_known (all_known (map known_count (take (length ps) C))) K (take (length ps) C)) (old (get_or ps 0 0 - 1))))
          (first (all_known (map known_count (take (length ps) C))) refl)
      by (suc j) l (inl m) =
          let C : Part = drop k (map (moved (positions_below k (interchange ps))) ks) in
          subst (λ K. HasCount K (k + suc j) (at_depth k (interchanged ps) t))
          (sym (order_later (take (length ps) C) C ps (drop (length ps) C) j m ∙ old (get_or ps (suc j) 0 - 1)))
          (later_count (suc j) (omega arith) m)
      by j l (inr (i, e)) =
          let C : Part = drop k (map (moved (positions_below k (interchange ps))) ks) in
          subst (λ K. HasCount K (k + j) (at_depth k (interchanged ps) t))
          (sym (order_after (take (length ps) C) C ps (drop (length ps) C) j i e ∙ (kind_drop (length ps) C i (length ps + i) refl ∙ old (length ps + i))))
          (subst (λ q. HasCount (moved (positions_below k (interchange ps)) (kind_at ks (k + (length ps + i)))) (k + q) (at_depth k (interchanged ps) t)) (sym e) (deep_count i (omega (arith, l, total, e, enough))))
