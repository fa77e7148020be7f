-- The loops that are taken together, none of which depends on another, are as wide everywhere.
use Rattle.std.proofs.Common.{◌≡◌, refl, ◌∙◌, subst, ℕ, zero, suc, ◌+◌, ◌-◌, ◌<◌, ◌≤◌, List, [], ◌∷◌, length, take, drop, Bool, true, false, arith, length-drop}
use Rattle.std.specs.Prelude.{◌==◌, ◌||◌, ◌&&◌, not}
use Rattle.std.specs.List.{list_any}
use Rattle.std.proofs.lemmas.Bool.{eqb-true, ne_eqb, lt-ltb, le-leb, or_parts}
use Rattle.c_semantics.specs.Loops.IterationTrees.{Tree, widths, pick, build}
use Rattle.canonical_nests.specs.declared.nest.CountKind.{CountKind}
use Rattle.canonical_nests.specs.Kinds.{Part, kind_at, depends_on}
use Rattle.canonical_nests.specs.LoopRules.Counts.{is_among_taken, depends_on_taken, some_depends, depend_on_another}
use Rattle.canonical_nests.specs.LoopRules.Clauses.{is_in}
use Rattle.nest_counts.specs.HasKinds.{flags, IsLoop, child, EachBelow, Related, SameTurns, HasKinds}
use Rattle.nest_counts.proofs.Ways.{none_flagged, each_both, each_more}
use Rattle.nest_counts.proofs.Built.{members_same, built}
use Rattle.nest_counts.proofs.Places.{kind_drop, later_flags, length_flags}
use Rattle.nest_counts.proofs.Kept.{Near, near, near_related}

-- ---- what the rule says

some_at : (k n q : ℕ) (cs : Part) (i : ℕ) → i < length cs → some_depends k n q cs ≡ false → depends_on_taken k n (q + i) (kind_at cs i) ≡ false
some_at k n q [] i l e = absurd (omega arith)
some_at k n q (c ∷ cs) i l e = by i l (or_parts (depends_on_taken k n q c) (some_depends k n (q + 1) cs) e) (some_at k n (q + 1) cs)
  where
    by : (i : ℕ) → i < suc (length cs) → (depends_on_taken k n q c ≡ false) × (some_depends k n (q + 1) cs ≡ false)
        → ((i : ℕ) → i < length cs → some_depends k n (q + 1) cs ≡ false → depends_on_taken k n (q + 1 + i) (kind_at cs i) ≡ false)
        → depends_on_taken k n (q + i) (kind_at (c ∷ cs) i) ≡ false
    by zero l p rest = subst (λ r. depends_on_taken k n r c ≡ false) (let s : q ≡ q + 0 = omega arith in s) p.0
    by (suc i) l p rest = subst (λ r. depends_on_taken k n r (kind_at cs i) ≡ false) (let s : q + 1 + i ≡ q + suc i = omega arith in s) (rest i (omega arith) p.1)

not_among : (k n q p : ℕ) (ds : List ℕ) → list_any (λ r. is_among_taken k n r && not (r == q)) ds ≡ false → k < p → p ≤ k + n → (p ≡ q → ⊥) → is_in p ds ≡ false
not_among k n q p [] e l m ne = refl
not_among k n q p (r ∷ ds) e l m ne = by (p == r) refl (or_parts (is_among_taken k n r && not (r == q)) (list_any (λ r. is_among_taken k n r && not (r == q)) ds) e) (λ d. not_among k n q p ds d l m ne)
  where
    test : p ≡ r → (is_among_taken k n r && not (r == q)) ≡ true
    test s = (λ i. (lt-ltb k r (subst (λ x. k < x) s l) i && le-leb r (k + n) (subst (λ x. x ≤ k + n) s m) i) && not (ne_eqb r q (λ e. ne (s ∙ e)) i))

    by : (b : Bool) → (p == r) ≡ b → ((is_among_taken k n r && not (r == q)) ≡ false) × (list_any (λ r. is_among_taken k n r && not (r == q)) ds ≡ false)
        → (list_any (λ r. is_among_taken k n r && not (r == q)) ds ≡ false → is_in p ds ≡ false) → (b || is_in p ds) ≡ false
    by true b h rest = absurd (let s : (is_among_taken k n r && not (r == q)) ≡ true = test (eqb-true p r b) in let u : (is_among_taken k n r && not (r == q)) ≡ false = h.0 in cc)
    by false b h rest = rest h.1

pub kind_taken : (n : ℕ) (cs : Part) (j : ℕ) → j < n → kind_at (take n cs) j ≡ kind_at cs j
kind_taken zero cs j l = absurd (omega arith)
kind_taken (suc n) [] j l = refl
kind_taken (suc n) (c ∷ cs) zero l = refl
kind_taken (suc n) (c ∷ cs) (suc j) l = kind_taken n cs j (omega arith)

many_taken : (n : ℕ) (cs : Part) (j : ℕ) → n ≤ length cs → j < n → j < length (take n cs)
many_taken zero cs j l m = absurd (omega arith)
many_taken (suc n) [] j l m = absurd (omega arith)
many_taken (suc n) (c ∷ cs) zero l m = omega arith
many_taken (suc n) (c ∷ cs) (suc j) l m = let h : j < length (take n cs) = many_taken n cs j (omega arith) (omega arith) in omega arith

-- a taken loop depends on no other taken one
pub on_no_other : (k n : ℕ) (ks : Part) → k + n ≤ length ks → depend_on_another k n ks ≡ false → (j p : ℕ) → j < n → k < p → p ≤ k + n → (p ≡ suc (k + j) → ⊥)
    → is_in p (depends_on (kind_at ks (k + j))) ≡ false
on_no_other k n ks l e j p m a b ne =
    not_among k n (k + 1 + j) p (depends_on (kind_at ks (k + j)))
    (subst (λ K. depends_on_taken k n (k + 1 + j) K ≡ false) (taken_at ∙ kind_drop k ks j (k + j) refl)
    (some_at k n (k + 1) (take n (drop k ks)) j many e))
    a b (λ s. ne (omega arith))
  where
    taken_at : kind_at (take n (drop k ks)) j ≡ kind_at (drop k ks) j
    taken_at = kind_taken n (drop k ks) j m

    many : j < length (take n (drop k ks))
    many = many_taken n (drop k ks) j (let d : length (drop k ks) ≡ length ks - k = length-drop k ks in omega arith) m

-- ---- trees

pub each_all : (P : ℕ → Tree → Type 0) (n k : ℕ) (t : Tree) → ((i : ℕ) → i < n → EachBelow (P i) k t) → EachBelow (λ x. (i : ℕ) → i < n → P i x) k t
each_all P n zero t h = h
each_all P n (suc k) t h = λ a l. each_all P n k (child t a) (λ i m. h i m a l)

pub each_diagonal : (R : Tree → Tree → Type 0) (bs : List Bool) (t : Tree) → Related R bs t t → EachBelow (λ x. R x x) (length bs) t
each_diagonal R [] t h = h
each_diagonal R (b ∷ bs) t h = λ i l. each_diagonal R bs (child t i) (h.1 i i l l (λ is. refl))

pub later_none : (k n : ℕ) (ks : Part) → k + n ≤ length ks → depend_on_another k n ks ≡ false → (j m : ℕ) → j < n → m ≤ j → later_flags k m (depends_on (kind_at ks (k + j))) ≡ none_flagged m
later_none k n ks l e j m a b =
    members_same m (λ i. is_in (suc (k + i)) (depends_on (kind_at ks (k + j)))) (λ i. false)
    (λ i c. on_no_other k n ks l e j (suc (k + i)) a (omega arith) (omega (arith, c, a, b)) (λ s. absurd (omega (arith, c, b, s))))

-- each nest of n taken loops is one that is built
pub rectangular : (k n : ℕ) (ks : Part) (t : Tree) → HasKinds ks t → k + n ≤ length ks → depend_on_another k n ks ≡ false → EachBelow (λ x. x ≡ build (widths n x) (pick x)) k t
rectangular k n ks t h l e =
    each_more (λ x. ((i : ℕ) → i < n → EachBelow IsLoop i x) × ((i : ℕ) → i < n → Related SameTurns (none_flagged i) x x)) (λ x. x ≡ build (widths n x) (pick x)) k t
    (λ x p. built n x p.0 p.1)
    (each_both (λ x. (i : ℕ) → i < n → EachBelow IsLoop i x) (λ x. (i : ℕ) → i < n → Related SameTurns (none_flagged i) x x) k t
    (each_all (λ i. EachBelow IsLoop i) n k t (λ i m.
    each_more (Near (kind_at ks (k + i)) i) (EachBelow IsLoop i) k t (λ x p. p.0) (near (kind_at ks (k + i)) k i (k + i) t refl (h (k + i) (omega (arith, l, m))))))
    (each_all (λ i x. Related SameTurns (none_flagged i) x x) n k t (λ i m.
    let K : CountKind = kind_at ks (k + i) in
    subst (λ q. EachBelow (λ x. Related SameTurns (none_flagged i) x x) q t) (length_flags k (depends_on K))
    (each_diagonal (Related SameTurns (none_flagged i)) (flags k (depends_on K)) t
    (subst (λ bs. Related (Related SameTurns bs) (flags k (depends_on K)) t t) (later_none k n ks l e i i m (omega arith))
    (near_related K k i (k + i) t refl (h (k + i) (omega (arith, l, m)))))))))
