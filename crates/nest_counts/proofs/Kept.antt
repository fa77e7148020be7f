-- What keeps the counts of a tree, and what a transformation below k loops owes.
use Rattle.std.proofs.Common.{◌≡◌, refl, sym, ap, ◌∙◌, subst, ℕ, zero, suc, ◌+◌, ◌<◌, ◌≤◌, List, [], ◌++◌, map, length, take, Option, Some, None, Bool, ◌⊎◌, inl, inr, arith}
use Rattle.c_semantics.specs.Loops.IterationTrees.{Tree, at_depth}
use Rattle.c_semantics.specs.Loops.Transformations.{Transformation}
use Rattle.canonical_nests.specs.declared.nest.CountKind.{CountKind}
use Rattle.canonical_nests.specs.Kinds.{Part, depends_on, moved, known_count, position_up_to, settled, kind_at, positions_below}
use Rattle.nest_counts.specs.HasKinds.{flags, IsLoop, turns, child, EachBelow, Related, SameTurns, HasCount, HasKinds}
use Rattle.nest_counts.proofs.Ways.{turns_on, loop_on, each_above, related_above, each_at, each_above_below, each_more, related_more, related_each, related_at, related_join, related_split, none_flagged, each_both, each_below}
use Rattle.nest_counts.proofs.Places.{kind_map, kind_take, kind_after, length_take_on, length_kinds, known_moved, length_flags, flags_moved, up_to_from, ComesFrom, flags_add, later_flags}

-- a loop stands above a depth, or so many loops further down
pub split_at : (k n : ℕ) → (n < k) ⊎ ((j : ℕ) × (n ≡ k + j))
split_at zero n = inr (n, omega arith)
split_at (suc k) zero = inl (omega arith)
split_at (suc k) (suc n) = further (split_at k n)
  where
    further : (n < k) ⊎ ((j : ℕ) × (n ≡ k + j)) → (suc n < suc k) ⊎ ((j : ℕ) × (suc n ≡ suc k + j))
    further (inl l) = inl (omega arith)
    further (inr (j, e)) = inr (j, omega arith)

-- the same of another kind that says as much
pub count_as : (K L : CountKind) (n : ℕ) (t : Tree) → known_count L ≡ known_count K → flags n (depends_on L) ≡ flags n (depends_on K) → HasCount K n t → HasCount L n t
count_as K L n t known deps h = record {
  loops = h.loops;
  known = λ v e. h.known v (sym known ∙ e);
  same = subst (λ bs. Related SameTurns bs t t) (sym deps) h.same;
}

pub settled_has : (ks : Part) (t : Tree) → HasKinds ks t → HasKinds (settled ks) t
settled_has ks t h n l =
    let f : ℕ → List ℕ = position_up_to (length ks) in
    let l' : n < length ks = subst (λ m. n < m) (length_kinds (moved f) ks) l in
    subst (λ K. HasCount K n t) (sym (kind_map (moved f) ks n refl))
    (count_as (kind_at ks n) (moved f (kind_at ks n)) n t (known_moved f (kind_at ks n)) (flags_moved f n (kind_at ks n) (λ p z m. up_to_from (length ks) p (omega arith))) (h n l'))

-- above a depth
pub count_above : (K : CountKind) (f : Tree → Tree) (n m : ℕ) (t : Tree) → n < m → HasCount K n t → HasCount K n (at_depth m f t)
count_above K f n m t l h = record {
  loops = each_above IsLoop f n m t l loop_on h.loops;
  known = λ v e. each_above (λ u. turns u ≡ v) f n m t l (λ g u q. turns_on g u ∙ q) (h.known v e);
  same = related_above SameTurns f (flags n (depends_on K)) m t t (subst (λ j. j < m) (sym (length_flags n (depends_on K))) l) (λ g x y q. turns_on g x ∙ (q ∙ sym (turns_on g y))) h.same;
}

-- what a function of the trees at a depth owes for a loop m loops further down
pub count_below : (P : Tree → Type 0) (R : Tree → Tree → Type 0) (K : CountKind) (f : Tree → Tree) (k m n : ℕ) (t : Tree) (as' bs : List Bool) → n ≡ k + m → EachBelow P k t
    → ((x : Tree) → P x → EachBelow IsLoop m (f x))
    → ((v : ℕ) → known_count K ≡ Some v → (x : Tree) → P x → EachBelow (λ u. turns u ≡ v) m (f x))
    → length as' ≡ k → flags n (depends_on K) ≡ as' ++ bs → Related R as' t t
    → ((x y : Tree) → P x → P y → R x y → Related SameTurns bs (f x) (f y))
    → HasCount K n (at_depth k f t)
count_below P R K f k m n t as' bs at each loops known len split rel same = record {
  loops = each_above_below IsLoop k m n (at_depth k f t) at (each_at (EachBelow IsLoop m) f k t (each_more P (λ x. EachBelow IsLoop m (f x)) k t loops each));
  known = λ v e. each_above_below (λ u. turns u ≡ v) k m n (at_depth k f t) at
      (each_at (EachBelow (λ u. turns u ≡ v) m) f k t (each_more P (λ x. EachBelow (λ u. turns u ≡ v) m (f x)) k t (known v e) each));
  same =
      let each' : EachBelow P (length as') t = subst (λ j. EachBelow P j t) (sym len) each in
      let near : Related (λ x y. Related SameTurns bs (f x) (f y)) as' t t =
      related_more (λ x y. P x × P y × R x y) (λ x y. Related SameTurns bs (f x) (f y)) as' t t (λ x y q. same x y q.0 q.1 q.2) (related_each P R as' t t each' each' rel) in
      let far : Related (Related SameTurns bs) as' (at_depth (length as') f t) (at_depth (length as') f t) = related_at (Related SameTurns bs) f as' t t near in
      subst (λ cs. Related SameTurns cs (at_depth k f t) (at_depth k f t)) (sym split)
      (related_join SameTurns as' bs (at_depth k f t) (at_depth k f t) (subst (λ j. Related (Related SameTurns bs) as' (at_depth j f t) (at_depth j f t)) len far));
}

-- where all are as wide, so are any two
pub known_same : (n v : ℕ) (t u : Tree) → EachBelow (λ x. turns x ≡ v) n t → EachBelow (λ x. turns x ≡ v) n u → Related SameTurns (none_flagged n) t u
known_same zero v t u p q = p ∙ sym q
known_same (suc n) v t u p q = ((λ is. absurd (cc)), (λ i j l m e. known_same n v (child t i) (child u j) (p i l) (q j m)))

-- ---- a part below k loops

pub part_has : (c : Transformation) (k : ℕ) (ks below : Part) (f : Tree → Tree) (t : Tree) → HasKinds ks t → k ≤ length ks
    → ((p : ℕ) → 0 < p → p ≤ k → ComesFrom (positions_below k c) p p)
    → ((j : ℕ) → j < length below → HasCount (kind_at below j) (k + j) (at_depth k f t))
    → HasKinds (settled (take k (map (moved (positions_below k c)) ks) ++ below)) (at_depth k f t)
part_has c k ks below f t h enough from new =
    settled_has (take k (map (moved (positions_below k c)) ks) ++ below) (at_depth k f t) (λ n l. by n l (split_at k n))
  where
    new_length : k ≤ length (map (moved (positions_below k c)) ks)
    new_length = subst (λ m. k ≤ m) (sym (length_kinds (moved (positions_below k c)) ks)) enough

    by : (n : ℕ) → n < length (take k (map (moved (positions_below k c)) ks) ++ below) → (n < k) ⊎ ((j : ℕ) × (n ≡ k + j))
        → HasCount (kind_at (take k (map (moved (positions_below k c)) ks) ++ below) n) n (at_depth k f t)
    by n l (inl m) =
        subst (λ K. HasCount K n (at_depth k f t)) (sym (kind_take k (map (moved (positions_below k c)) ks) below n m new_length ∙ kind_map (moved (positions_below k c)) ks n refl))
        (count_above (moved (positions_below k c) (kind_at ks n)) f n k t m
        (count_as (kind_at ks n) (moved (positions_below k c) (kind_at ks n)) n t (known_moved (positions_below k c) (kind_at ks n))
        (flags_moved (positions_below k c) n (kind_at ks n) (λ p z q. from p z (omega (arith, q, m)))) (h n (omega (arith, m, enough)))))
    by n l (inr (j, e)) =
        let total : length (take k (map (moved (positions_below k c)) ks) ++ below) ≡ k + length below = length_take_on k (map (moved (positions_below k c)) ks) below new_length in
        subst (λ K. HasCount K n (at_depth k f t)) (sym (kind_after k (map (moved (positions_below k c)) ks) below j n e new_length))
        (subst (λ m. HasCount (kind_at below j) m (at_depth k f t)) (sym e) (new j (omega (arith, l, e, total))))

-- ---- what is known of the trees at a depth

abbrev pub Near : CountKind → ℕ → Tree → Type 0
Near K j x = EachBelow IsLoop j x × ((v : ℕ) → known_count K ≡ Some v → EachBelow (λ u. turns u ≡ v) j x)

pub each_any : (P : Tree → Type 0) (n : ℕ) (t : Tree) → ((x : Tree) → P x) → EachBelow P n t
each_any P zero t h = h t
each_any P (suc n) t h = λ i l. each_any P n (child t i) h

each_known : (o : Option ℕ) (k j : ℕ) (t : Tree) → ((v : ℕ) → o ≡ Some v → EachBelow (EachBelow (λ u. turns u ≡ v) j) k t)
    → EachBelow (λ x. (v : ℕ) → o ≡ Some v → EachBelow (λ u. turns u ≡ v) j x) k t
each_known None k j t h = each_any (λ x. (v : ℕ) → None ≡ Some v → EachBelow (λ u. turns u ≡ v) j x) k t (λ x v e. absurd (cc))
each_known (Some w) k j t h =
    each_more (EachBelow (λ u. turns u ≡ w) j) (λ x. (v : ℕ) → Some w ≡ Some v → EachBelow (λ u. turns u ≡ v) j x) k t
    (λ x q v e. subst (λ z. EachBelow (λ u. turns u ≡ z) j x) (let i : w ≡ v = cc in i) q) (h w refl)

pub near : (K : CountKind) (k j n : ℕ) (t : Tree) → n ≡ k + j → HasCount K n t → EachBelow (Near K j) k t
near K k j n t e h =
    each_both (EachBelow IsLoop j) (λ x. (v : ℕ) → known_count K ≡ Some v → EachBelow (λ u. turns u ≡ v) j x) k t
    (each_below IsLoop k j n t e h.loops)
    (each_known (known_count K) k j t (λ v q. each_below (λ u. turns u ≡ v) k j n t e (h.known v q)))

pub near_related : (K : CountKind) (k j n : ℕ) (t : Tree) → n ≡ k + j → HasCount K n t
    → Related (Related SameTurns (later_flags k j (depends_on K))) (flags k (depends_on K)) t t
near_related K k j n t e h =
    related_split SameTurns (flags k (depends_on K)) (later_flags k j (depends_on K)) t t
    (subst (λ bs. Related SameTurns bs t t) (flags_add k j n (depends_on K) e) h.same)

-- the loop that was j loops down is m loops down, and what is known of its count stays
pub count_moved : (K L : CountKind) (f : Tree → Tree) (k j m n p : ℕ) (t : Tree) (Q : Tree → Type 0) → n ≡ k + j → p ≡ k + m → HasCount K n t → EachBelow Q k t
    → known_count L ≡ known_count K → flags k (depends_on L) ≡ flags k (depends_on K)
    → ((x : Tree) → Q x → EachBelow IsLoop j x → EachBelow IsLoop m (f x))
    → ((v : ℕ) (x : Tree) → Q x → EachBelow (λ u. turns u ≡ v) j x → EachBelow (λ u. turns u ≡ v) m (f x))
    → ((x y : Tree) → Q x → Q y → Related SameTurns (later_flags k j (depends_on K)) x y → Related SameTurns (later_flags k m (depends_on L)) (f x) (f y))
    → HasCount L p (at_depth k f t)
count_moved K L f k j m n p t Q from to h q known deps loops counts rel =
    count_below (λ x. Q x × Near K j x) (Related SameTurns (later_flags k j (depends_on K))) L f k m p t (flags k (depends_on K)) (later_flags k m (depends_on L)) to
    (each_both Q (Near K j) k t q (near K k j n t from h))
    (λ x w. loops x w.0 w.1.0)
    (λ v e x w. counts v x w.0 (w.1.1 v (sym known ∙ e)))
    (length_flags k (depends_on K))
    (flags_add k m p (depends_on L) to ∙ ap (λ bs. bs ++ later_flags k m (depends_on L)) deps)
    (near_related K k j n t from h)
    (λ x y w z. rel x y w.0 z.0)

-- the first loop at the depth has another count, which the old one tells
pub count_changed : (K L : CountKind) (f : Tree → Tree) (k : ℕ) (t : Tree) (many : ℕ → ℕ) → HasCount K k t → flags k (depends_on L) ≡ flags k (depends_on K)
    → ((x : Tree) → IsLoop (f x)) → ((x : Tree) → turns (f x) ≡ many (turns x))
    → ((v : ℕ) → known_count L ≡ Some v → (w : ℕ) × ((known_count K ≡ Some w) × (many w ≡ v)))
    → HasCount L (k + 0) (at_depth k f t)
count_changed K L f k t many h deps loops takes known =
    count_below (Near K 0) SameTurns L f k 0 (k + 0) t (flags k (depends_on K)) [] refl (near K k 0 k t (let e : k ≡ k + 0 = omega arith in e) h)
    (λ x w. loops x)
    (λ v e x w. let q = known v e in takes x ∙ (ap many (w.1 q.0 q.1.0) ∙ q.1.1))
    (length_flags k (depends_on K))
    (flags_add k 0 (k + 0) (depends_on L) refl ∙ ap (λ bs. bs ++ []) deps)
    h.same
    (λ x y w z e. takes x ∙ (ap many e ∙ sym (takes y)))
