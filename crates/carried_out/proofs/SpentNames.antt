-- Names that no later draw gives: those of the source, and those that were drawn.
use Rattle.std.proofs.Common.{◌≡◌, refl, sym, ap, subst, ℕ, zero, suc, List, [], ◌∷◌, length, Bool, true, false, ◌⊎◌, inl, inr, arith}
use Rattle.std.specs.Prelude.{◌+◌, ◌≤◌, ◌<◌, bytes_eq, nat_lt, if◌then◌else◌}
use Rattle.std.proofs.lemmas.Bool.{both_ways, cases_lt, lt-ltb, le-ltb}
use Rattle.std.proofs.lemmas.Slice.Eq.{bytes_eq-Decides}
use Rattle.c_tree.specs.Bare.{Name}
use Rattle.c_semantics.specs.Meaning.FileVariables.{has_name}
use Rattle.c_semantics.specs.Laws.Apart.{Differ}
use Rattle.loop_normal.specs.DrawnNames.{FreshNames, next_digits, numbered, untaken, drawn_digits, drawn, after_draw, after_draws, AreDigits}
use Rattle.loop_normal.specs.FreshNames.{Among, Apart}
use Rattle.loop_normal.proofs.FreshFrames.{differ_sym}
use Rattle.loop_normal.proofs.Drawn.{drawn_once}
use Rattle.carried_out.specs.DistinctNames.{AllApart}

-- ---- the digits stay digits

next_are : (ds : List ℕ) → AreDigits ds → AreDigits (next_digits ds)
next_are [] h = (omega arith, tt)
next_are (d ∷ ds) h = by (cases_lt d 57) (next_are ds h.1)
  where
    by : (d < 57) ⊎ (57 ≤ d) → AreDigits (next_digits ds) → AreDigits (if nat_lt d 57 then (d + 1) ∷ ds else 48 ∷ next_digits ds)
    by (inl l) k = subst (λ t. AreDigits (if t then (d + 1) ∷ ds else 48 ∷ next_digits ds)) (sym (lt-ltb d 57 l)) (omega (arith, h.0), h.1)
    by (inr l) k = subst (λ t. AreDigits (if t then (d + 1) ∷ ds else 48 ∷ next_digits ds)) (sym (le-ltb d 57 l)) (omega arith, k)

untaken_are : (taken : List Name) (k : ℕ) (ds : List ℕ) → AreDigits ds → AreDigits (untaken taken k ds)
untaken_are taken zero ds h = h
untaken_are taken (suc k) ds h = by (has_name taken (numbered ds)) (untaken_are taken k (next_digits ds) (next_are ds h))
  where
    by : (t : Bool) → AreDigits (untaken taken k (next_digits ds)) → AreDigits (if t then untaken taken k (next_digits ds) else ds)
    by true g = g
    by false g = h

pub after_are : (f : FreshNames) → AreDigits f.digits → AreDigits (after_draw f).digits
after_are f h = next_are (drawn_digits f) (untaken_are f.taken (length f.taken) f.digits h)

-- ---- names that were drawn

-- no draw from here on gives the name
abbrev pub Spent : FreshNames → Name → Type 0
Spent f y = (k : ℕ) → Differ (drawn (after_draws k f)) y

pub spent_many : (k : ℕ) (f : FreshNames) (y : Name) → Spent f y → Spent (after_draws k f) y
spent_many zero f y h = h
spent_many (suc k) f y h = spent_many k (after_draw f) y (λ j. h (suc j))

pub are_many : (k : ℕ) (f : FreshNames) → AreDigits f.digits → AreDigits (after_draws k f).digits
are_many zero f d = d
are_many (suc k) f d = are_many k (after_draw f) (after_are f d)

-- the names of so many draws
abbrev pub draws : ℕ → FreshNames → List Name
draws zero f = []
draws (suc k) f = drawn f ∷ draws k (after_draw f)

pub length_draws : (k : ℕ) (f : FreshNames) → length (draws k f) ≡ k
length_draws zero f = refl
length_draws (suc k) f = ap suc (length_draws k (after_draw f))

apart_draws : (k : ℕ) (f : FreshNames) (y : Name) → Spent f y → Apart y (draws k f)
apart_draws zero f y h = tt
apart_draws (suc k) f y h = (h zero, apart_draws k (after_draw f) y (λ j. h (suc j)))

pub all_apart : (k : ℕ) (f : FreshNames) → AreDigits f.digits → AllApart (draws k f)
all_apart zero f d = tt
all_apart (suc k) f d = (apart_draws k (after_draw f) (drawn f) (drawn_once f d), all_apart k (after_draw f) (after_are f d))

pub among_differs : (k : ℕ) (f : FreshNames) (y z : Name) → Spent f y → Among (draws k f) z → Differ y z
among_differs zero f y z h a = absurd (both_ways false refl a)
among_differs (suc k) f y z h a = by (bytes_eq z (drawn f)) refl (among_differs k (after_draw f) y z (λ j. h (suc j))) a
  where
    by : (t : Bool) → bytes_eq z (drawn f) ≡ t → (has_name (draws k (after_draw f)) z ≡ true → Differ y z) → (if t then true else has_name (draws k (after_draw f)) z) ≡ true → Differ y z
    by true e go b = subst (Differ y) (sym ((bytes_eq-Decides z (drawn f)).0 e)) (differ_sym (drawn f) y (h zero))
    by false e go b = go b

-- each name of a list
abbrev pub Each : (Name → Type 0) → List Name → Type 0
Each P [] = Unit {0}
Each P (x ∷ xs) = P x × Each P xs

pub draws_spent : (k : ℕ) (f : FreshNames) → AreDigits f.digits → Each (Spent (after_draws k f)) (draws k f)
draws_spent zero f d = tt
draws_spent (suc k) f d = (spent_many k (after_draw f) (drawn f) (drawn_once f d), draws_spent k (after_draw f) (after_are f d))
