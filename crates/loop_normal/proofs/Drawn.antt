-- Drawn names are new: each number is greater than those before, and among as many numbers and one more as names are taken
-- there is one whose name isn't.
use Rattle.std.proofs.Common.{◌≡◌, refl, sym, ap, ◌∙◌, subst, ℕ, zero, suc, ◌+◌, ◌-◌, ◌*◌, ◌≤◌, ◌<◌, ◌⊎◌, inl, inr, min, List, [], ◌∷◌, ◌++◌, length, reverse, drop, Bool, true, false, arith}
use Rattle.std.specs.Prelude.{bytes_eq, nat_lt, codes, if◌then◌else◌}
use Rattle.std.proofs.lemmas.Bool.{lt-ltb, le-ltb, cases_lt, both_ways}
use Rattle.std.proofs.lemmas.List.{reverse-reverse}
use Rattle.std.proofs.lemmas.Slice.Eq.{bytes_eq-Decides}
use Rattle.c_tree.specs.Bare.{Name}
use Rattle.c_semantics.specs.Meaning.FileVariables.{has_name}
use Rattle.c_semantics.specs.Laws.Apart.{Differ}
use Rattle.loop_normal.specs.DrawnNames.{FreshNames, next_digits, numbered, untaken, drawn_digits, drawn, after_draw, after_draws, AreDigits, DrawnIsUntaken, DrawnOnce}

-- ---- the number that digits stand for

abbrev value : List ℕ → ℕ
value [] = 0
value (d ∷ ds) = (min d 57 - 48) + 10 * value ds

next_value : (ds : List ℕ) → AreDigits ds → value (next_digits ds) ≡ value ds + 1
next_value [] h = refl
next_value (d ∷ ds) h = by (cases_lt d 57) (next_value ds h.1)
  where
    by : (d < 57) ⊎ (57 ≤ d) → value (next_digits ds) ≡ value ds + 1 → value (if nat_lt d 57 then (d + 1) ∷ ds else 48 ∷ next_digits ds) ≡ (min d 57 - 48) + 10 * value ds + 1
    by (inl l) k = ap (λ t. value (if t then (d + 1) ∷ ds else 48 ∷ next_digits ds)) (lt-ltb d 57 l) ∙ omega (arith, l, h.0)
    by (inr l) k = ap (λ t. value (if t then (d + 1) ∷ ds else 48 ∷ next_digits ds)) (le-ltb d 57 l) ∙ omega (arith, l, k)

next_are : (ds : List ℕ) → AreDigits ds → AreDigits (next_digits ds)
next_are [] h = (omega arith, tt)
next_are (d ∷ ds) h = by (nat_lt d 57) (next_are ds h.1)
  where
    by : (t : Bool) → AreDigits (next_digits ds) → AreDigits (if t then (d + 1) ∷ ds else 48 ∷ next_digits ds)
    by true k = (omega (arith, h.0), h.1)
    by false k = (omega arith, k)

untaken_are : (taken : List Name) (k : ℕ) (ds : List ℕ) → AreDigits ds → AreDigits (untaken taken k ds)
untaken_are taken zero ds h = h
untaken_are taken (suc k) ds h = by (has_name taken (numbered ds)) (untaken_are taken k (next_digits ds) (next_are ds h))
  where
    by : (t : Bool) → AreDigits (untaken taken k (next_digits ds)) → AreDigits (if t then untaken taken k (next_digits ds) else ds)
    by true g = g
    by false g = h

untaken_more : (taken : List Name) (k : ℕ) (ds : List ℕ) → AreDigits ds → value ds ≤ value (untaken taken k ds)
untaken_more taken zero ds h = omega arith
untaken_more taken (suc k) ds h = by (has_name taken (numbered ds)) (untaken_more taken k (next_digits ds) (next_are ds h))
  where
    by : (t : Bool) → value (next_digits ds) ≤ value (untaken taken k (next_digits ds)) → value ds ≤ value (if t then untaken taken k (next_digits ds) else ds)
    by true g = omega (arith, g, next_value ds h)
    by false g = omega arith

-- names with different numbers differ
same_number : (ds es : List ℕ) → numbered ds ≡ numbered es → value ds ≡ value es
same_number ds es e = ap value (sym (reverse-reverse ds) ∙ ap (λ n. reverse (drop 5 n)) e ∙ reverse-reverse es)

numbers_differ : (ds es : List ℕ) → value ds < value es → Differ (numbered es) (numbered ds)
numbers_differ ds es l = by (bytes_eq (numbered es) (numbered ds)) refl
  where
    by : (t : Bool) → bytes_eq (numbered es) (numbered ds) ≡ t → t ≡ false
    by true e = absurd (omega (arith, l, same_number es ds ((bytes_eq-Decides (numbered es) (numbered ds)).0 e)))
    by false e = refl

-- ---- a list without a name

abbrev without : Name → List Name → List Name
without x [] = []
without x (y ∷ ys) = if bytes_eq x y then ys else y ∷ without x ys

shorter : (x : Name) (ys : List Name) → has_name ys x ≡ true → length (without x ys) + 1 ≡ length ys
shorter x [] e = absurd (both_ways false refl e)
shorter x (y ∷ ys) e = by (bytes_eq x y) (shorter x ys) e
  where
    by : (t : Bool) → (has_name ys x ≡ true → length (without x ys) + 1 ≡ length ys) → (if t then true else has_name ys x) ≡ true → length (if t then ys else y ∷ without x ys) + 1 ≡ suc (length ys)
    by true f e = omega arith
    by false f e = omega (arith, f e)

still_there : (x z : Name) (ys : List Name) → Differ z x → has_name ys z ≡ true → has_name (without x ys) z ≡ true
still_there x z [] d e = e
still_there x z (y ∷ ys) d e = by (bytes_eq x y) refl (bytes_eq z y) refl (still_there x z ys d) e
  where
    by : (t : Bool) → bytes_eq x y ≡ t → (u : Bool) → bytes_eq z y ≡ u → (has_name ys z ≡ true → has_name (without x ys) z ≡ true) → (if u then true else has_name ys z) ≡ true → has_name (if t then ys else y ∷ without x ys) z ≡ true
    by true p true q f e = absurd (both_ways (bytes_eq z x) d (ap (bytes_eq z) ((bytes_eq-Decides x y).0 p) ∙ q))
    by true p false q f e = e
    by false p true q f e = ap (λ t. if t then true else has_name (without x ys) z) q
    by false p false q f e = ap (λ t. if t then true else has_name (without x ys) z) q ∙ f e

-- ---- there is an untaken number

finds : (k : ℕ) (left taken : List Name) (ds : List ℕ) → AreDigits ds → length left ≤ k →
    ((es : List ℕ) → AreDigits es → value ds ≤ value es → has_name taken (numbered es) ≡ true → has_name left (numbered es) ≡ true) → has_name taken (numbered (untaken taken k ds)) ≡ false
finds zero [] taken ds h l f = by (has_name taken (numbered ds)) refl
  where
    by : (t : Bool) → has_name taken (numbered ds) ≡ t → t ≡ false
    by true e = sym (f ds h (omega arith) e)
    by false e = refl
finds zero (x ∷ left) taken ds h l f = absurd (omega (arith, l))
finds (suc k) left taken ds h l f = by (has_name taken (numbered ds)) refl (λ less m g. finds k less taken (next_digits ds) (next_are ds h) m g)
  where
    rest : ((less : List Name) → length less ≤ k → ((es : List ℕ) → AreDigits es → value (next_digits ds) ≤ value es → has_name taken (numbered es) ≡ true → has_name less (numbered es) ≡ true) → has_name taken (numbered (untaken taken k (next_digits ds))) ≡ false) → has_name left (numbered ds) ≡ true → has_name taken (numbered (untaken taken k (next_digits ds))) ≡ false
    rest go e =
        go (without (numbered ds) left) (omega (arith, l, shorter (numbered ds) left e))
        (λ es g m t. still_there (numbered ds) (numbered es) left (numbers_differ ds es (omega (arith, m, next_value ds h))) (f es g (omega (arith, m, next_value ds h)) t))

    by : (t : Bool) → has_name taken (numbered ds) ≡ t → ((less : List Name) → length less ≤ k → ((es : List ℕ) → AreDigits es → value (next_digits ds) ≤ value es → has_name taken (numbered es) ≡ true → has_name less (numbered es) ≡ true) → has_name taken (numbered (untaken taken k (next_digits ds))) ≡ false) → has_name taken (numbered (if t then untaken taken k (next_digits ds) else ds)) ≡ false
    by true e go = rest go (f ds h (omega arith) e)
    by false e go = e

pub drawn_is_untaken : DrawnIsUntaken
drawn_is_untaken f h = finds (length f.taken) f.taken f.taken f.digits h (omega arith) (λ es g m t. t)

-- ---- later draws

after_are : (f : FreshNames) → AreDigits f.digits → AreDigits (after_draw f).digits
after_are f h = next_are (drawn_digits f) (untaken_are f.taken (length f.taken) f.digits h)

later_value : (k : ℕ) (f : FreshNames) → AreDigits f.digits → value f.digits ≤ value (drawn_digits (after_draws k f))
later_value zero f h = untaken_more f.taken (length f.taken) f.digits h
later_value (suc k) f h =
    omega (arith, untaken_more f.taken (length f.taken) f.digits h, next_value (drawn_digits f) (untaken_are f.taken (length f.taken) f.digits h), later_value k (after_draw f) (after_are f h))

pub drawn_once : DrawnOnce
drawn_once f h k =
    numbers_differ (drawn_digits f) (drawn_digits (after_draws k (after_draw f)))
    (omega (arith, next_value (drawn_digits f) (untaken_are f.taken (length f.taken) f.digits h), later_value k (after_draw f) (after_are f h)))
