-- Positions of loops before and after a transformation, and what a part says at each place.
use Rattle.std.proofs.Common.{◌≡◌, refl, sym, ap, ◌∙◌, ℕ, zero, suc, ◌+◌, ◌<◌, ◌≤◌, List, [], ◌∷◌, ◌++◌, map, length, take, drop, None, Bool, true, false, arith}
use Rattle.std.specs.Prelude.{◌||◌, ◌==◌, nat_lt, nat_le, flat_map, if◌then◌else◌}
use Rattle.std.proofs.lemmas.Bool.{eqb-true, ne_eqb}
use Rattle.c_semantics.specs.Loops.IterationTrees.{members}
use Rattle.canonical_nests.specs.declared.nest.CountKind.{CountKind}
use Rattle.canonical_nests.specs.declared.nest.CountKind.TheVariants.{Known, Entry, Depends}
use Rattle.canonical_nests.specs.Kinds.{Part, with_position, ascending, depends_on, some_or_entry, on_positions, moved, known_count, position_up_to, kind_at}
use Rattle.canonical_nests.specs.LoopRules.Clauses.{is_in}
use Rattle.nest_counts.specs.HasKinds.{flags}
use Rattle.nest_counts.proofs.Built.{length_members, members_same}

-- ---- what a part says at a place

pub kind_map : (g : CountKind → CountKind) (ks : Part) (n : ℕ) → g Entry ≡ Entry → kind_at (map g ks) n ≡ g (kind_at ks n)
kind_map g [] n e = sym e
kind_map g (k ∷ ks) zero e = refl
kind_map g (k ∷ ks) (suc n) e = kind_map g ks n e

pub kind_take : (k : ℕ) (ks bs : Part) (n : ℕ) → n < k → k ≤ length ks → kind_at (take k ks ++ bs) n ≡ kind_at ks n
kind_take zero ks bs n l m = absurd (omega arith)
kind_take (suc k) [] bs n l m = absurd (omega arith)
kind_take (suc k) (c ∷ ks) bs zero l m = refl
kind_take (suc k) (c ∷ ks) bs (suc n) l m = kind_take k ks bs n (omega arith) (omega arith)

pub kind_after : (k : ℕ) (ks bs : Part) (j n : ℕ) → n ≡ k + j → k ≤ length ks → kind_at (take k ks ++ bs) n ≡ kind_at bs j
kind_after zero ks bs j n e m = ap (kind_at bs) (let i : n ≡ j = omega arith in i)
kind_after (suc k) [] bs j n e m = absurd (omega arith)
kind_after (suc k) (c ∷ ks) bs j zero e m = absurd (omega arith)
kind_after (suc k) (c ∷ ks) bs j (suc n) e m = kind_after k ks bs j n (omega arith) (omega arith)

pub kind_drop : (k : ℕ) (ks : Part) (j n : ℕ) → n ≡ k + j → kind_at (drop k ks) j ≡ kind_at ks n
kind_drop zero ks j n e = ap (kind_at ks) (let i : j ≡ n = omega arith in i)
kind_drop (suc k) [] j n e = refl
kind_drop (suc k) (c ∷ ks) j zero e = absurd (omega arith)
kind_drop (suc k) (c ∷ ks) j (suc n) e = kind_drop k ks j n (omega arith)

pub length_take_on : (k : ℕ) (ks bs : Part) → k ≤ length ks → length (take k ks ++ bs) ≡ k + length bs
length_take_on zero ks bs m = omega arith
length_take_on (suc k) [] bs m = absurd (omega arith)
length_take_on (suc k) (c ∷ ks) bs m = let e : length (take k ks ++ bs) ≡ k + length bs = length_take_on k ks bs (omega arith) in omega arith

pub length_kinds : (g : CountKind → CountKind) (ks : Part) → length (map g ks) ≡ length ks
length_kinds g [] = refl
length_kinds g (k ∷ ks) = ap (λ n. suc n) (length_kinds g ks)

-- ---- positions among others

pub among_append : (p : ℕ) (qs rs : List ℕ) → is_in p (qs ++ rs) ≡ (is_in p qs || is_in p rs)
among_append p [] rs = refl
among_append p (q ∷ qs) rs = by (p == q) (among_append p qs rs)
  where
    by : (b : Bool) → is_in p (qs ++ rs) ≡ (is_in p qs || is_in p rs)
        → (b || is_in p (qs ++ rs)) ≡ ((b || is_in p qs) || is_in p rs)
    by true e = refl
    by false e = e

pub among_with : (p q : ℕ) (qs : List ℕ) → is_in p (with_position q qs) ≡ (p == q || is_in p qs)
among_with p q [] = refl
among_with p q (r ∷ rs) = by (nat_lt q r) (q == r) refl (among_with p q rs)
  where
    swap : (a b c : Bool) → (a || (b || c)) ≡ (b || (a || c))
    swap true true c = refl
    swap true false c = refl
    swap false true c = refl
    swap false false c = refl

    twice : (a b c : Bool) → a ≡ b → (a || c) ≡ (b || (a || c))
    twice true true c e = refl
    twice true false c e = refl
    twice false true c e = absurd (cc)
    twice false false c e = refl

    by : (l b : Bool) → (q == r) ≡ b → is_in p (with_position q rs) ≡ (p == q || is_in p rs)
        → is_in p (if l then q ∷ r ∷ rs else if b then r ∷ rs else r ∷ with_position q rs) ≡ (p == q || (p == r || is_in p rs))
    by true b e h = refl
    by false true e h = twice (p == r) (p == q) (is_in p rs) (ap (λ x. p == x) (sym (eqb-true q r e)))
    by false false e h = ap (λ x. p == r || x) h ∙ swap (p == r) (p == q) (is_in p rs)

pub among_ascending : (p : ℕ) (qs : List ℕ) → is_in p (ascending qs) ≡ is_in p qs
among_ascending p [] = refl
among_ascending p (q ∷ qs) = among_with p q (ascending qs) ∙ ap (λ x. p == q || x) (among_ascending p qs)

depends_some : (qs : List ℕ) → depends_on (some_or_entry qs) ≡ qs
depends_some [] = refl
depends_some (q ∷ qs) = refl

pub among_on : (p : ℕ) (qs : List ℕ) → is_in p (depends_on (on_positions qs)) ≡ is_in p qs
among_on p qs = ap (is_in p) (depends_some (ascending qs)) ∙ among_ascending p qs

known_some : (qs : List ℕ) → known_count (some_or_entry qs) ≡ None
known_some [] = refl
known_some (q ∷ qs) = refl

pub known_on : (qs : List ℕ) → known_count (on_positions qs) ≡ None
known_on qs = known_some (ascending qs)

pub known_moved : (f : ℕ → List ℕ) (k : CountKind) → known_count (moved f k) ≡ known_count k
known_moved f (Known c) = refl
known_moved f Entry = refl
known_moved f (Depends ps) = known_on (flat_map f ps)

-- ---- where a position comes from

-- a new position comes from just one old one
abbrev pub ComesFrom : (ℕ → List ℕ) → ℕ → ℕ → Type 0
ComesFrom f p q = (r : ℕ) → is_in p (f r) ≡ (q == r)

pub among_flat : (f : ℕ → List ℕ) (p q : ℕ) (rs : List ℕ) → ComesFrom f p q → is_in p (flat_map f rs) ≡ is_in q rs
among_flat f p q [] from = refl
among_flat f p q (r ∷ rs) from =
    among_append p (f r) (flat_map f rs) ∙ (ap (λ x. x || is_in p (flat_map f rs)) (from r) ∙ ap (λ x. q == r || x) (among_flat f p q rs from))

pub among_moved : (f : ℕ → List ℕ) (p q : ℕ) (k : CountKind) → ComesFrom f p q → is_in p (depends_on (moved f k)) ≡ is_in q (depends_on k)
among_moved f p q (Known c) from = refl
among_moved f p q Entry from = refl
among_moved f p q (Depends rs) from = among_on p (flat_map f rs) ∙ among_flat f p q rs from

-- ---- flags

pub length_flags : (n : ℕ) (ps : List ℕ) → length (flags n ps) ≡ n
length_flags n ps = length_members n (λ i. is_in (suc i) ps)

pub members_add : {A : Type 0} (k j n : ℕ) (f : ℕ → A) → n ≡ k + j → members n f ≡ members k f ++ members j (λ i. f (k + i))
members_add zero j n f e = ap (λ m. members m f) (let i : n ≡ j = omega arith in i) ∙ members_same j f (λ i. f (0 + i)) (λ i l. ap f (let s : i ≡ 0 + i = omega arith in s))
members_add (suc k) j zero f e = absurd (omega arith)
members_add (suc k) j (suc n) f e =
    ap (λ l. f 0 ∷ l) (members_add k j n (λ i. f (suc i)) (omega arith)
    ∙ ap (λ l. members k (λ i. f (suc i)) ++ l) (members_same j (λ i. f (suc (k + i))) (λ i. f (suc k + i)) (λ i l. ap f (let s : suc (k + i) ≡ suc k + i = omega arith in s))))

-- the flags of the positions after k
abbrev pub later_flags : ℕ → ℕ → List ℕ → List Bool
later_flags k j ps = members j (λ i. is_in (suc (k + i)) ps)

pub flags_add : (k j n : ℕ) (ps : List ℕ) → n ≡ k + j → flags n ps ≡ flags k ps ++ later_flags k j ps
flags_add k j n ps e = members_add k j n (λ i. is_in (suc i) ps) e

pub flags_moved : (f : ℕ → List ℕ) (n : ℕ) (k : CountKind) → ((p : ℕ) → 0 < p → p ≤ n → ComesFrom f p p) → flags n (depends_on (moved f k)) ≡ flags n (depends_on k)
flags_moved f n k from =
    members_same n (λ i. is_in (suc i) (depends_on (moved f k))) (λ i. is_in (suc i) (depends_on k)) (λ i l. among_moved f (suc i) (suc i) k (from (suc i) (omega arith) (omega (arith, l))))

pub up_to_from : (m p : ℕ) → p ≤ m → ComesFrom (position_up_to m) p p
up_to_from m p l r = by (nat_le r m) refl
  where
    by : (b : Bool) → nat_le r m ≡ b → is_in p (if b then r ∷ [] else []) ≡ (p == r)
    by true e = same (p == r)
      where
        same : (b : Bool) → (b || false) ≡ b
        same true = refl
        same false = refl
    by false e = sym (ne_eqb p r (λ s. absurd (grind arith)))
