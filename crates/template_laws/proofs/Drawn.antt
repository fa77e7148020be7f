-- A drawn name is a name, of letters and digits, and none that is drawn later.
use Rattle.std.proofs.Common.{◌≡◌, refl, sym, ap, ◌∙◌, subst, ℕ, zero, suc, ◌+◌, ◌≤◌, List, [], ◌∷◌, length, reverse, Bool, true, false, ◌&&◌, ◌||◌, not, IsTrue, arith, lit≤}
use Rattle.std.specs.Prelude.{if◌then◌else◌, nat_lt}
use Rattle.std.specs.List.{list_all}
use Rattle.std.proofs.lemmas.Bool.{ltb-true, le-leb, and_from}
use Rattle.std.proofs.lemmas.List.{reverse-append}
use Rattle.std.proofs.lemmas.List.Folds.{list_all-append}
use Rattle.c_tree.specs.Bare.{Name}
use Rattle.c_tree.specs.NameRules.DeclaredNames.{is_among}
use Rattle.c_tree.specs.WellFormed.{keywords, is_letter, is_digit, IsName}
use Rattle.c_semantics.specs.Meaning.FileVariables.{has_name}
use Rattle.loop_normal.specs.DrawnNames.{FreshNames, next_digits, numbered, untaken, drawn_digits, drawn, after_draw, after_draws, no_draws, AreDigits}
use Rattle.loop_normal.proofs.Drawn.{drawn_once}
use Rattle.template_laws.specs.Names.{DrawsApart}

abbrev AreDecimal : List ℕ → Type 0
AreDecimal [] = Unit {0}
AreDecimal (d ∷ ds) = (48 ≤ d) × (d ≤ 57) × AreDecimal ds

next_decimal : (ds : List ℕ) → AreDecimal ds → AreDecimal (next_digits ds)
next_decimal [] h = (lit≤ tt, lit≤ tt, tt)
next_decimal (d ∷ ds) h = by (nat_lt d 57) refl (next_decimal ds h.2)
  where
    by : (b : Bool) → nat_lt d 57 ≡ b → AreDecimal (next_digits ds) → AreDecimal (if b then (d + 1) ∷ ds else 48 ∷ next_digits ds)
    by true e k = let l = ltb-true d 57 e in let m = h.0 in (omega arith, omega arith, h.2)
    by false e k = (lit≤ tt, lit≤ tt, k)

untaken_decimal : (taken : List Name) (k : ℕ) (ds : List ℕ) → AreDecimal ds → AreDecimal (untaken taken k ds)
untaken_decimal taken zero ds h = h
untaken_decimal taken (suc k) ds h = by (has_name taken (numbered ds)) (untaken_decimal taken k (next_digits ds) (next_decimal ds h))
  where
    by : (b : Bool) → AreDecimal (untaken taken k (next_digits ds)) → AreDecimal (if b then untaken taken k (next_digits ds) else ds)
    by true e = e
    by false e = h

drawn_decimal : (f : FreshNames) → AreDecimal f.digits → AreDecimal (drawn_digits f)
drawn_decimal f h = untaken_decimal f.taken (length f.taken) f.digits h

after_decimal : (k : ℕ) (f : FreshNames) → AreDecimal f.digits → AreDecimal (after_draws k f).digits
after_decimal zero f h = h
after_decimal (suc k) f h = after_decimal k (after_draw f) (next_decimal (drawn_digits f) (drawn_decimal f h))

abbrev in_word : ℕ → Bool
in_word d = is_letter d || is_digit d

or_true : (a : Bool) → (a || true) ≡ true
or_true true = refl
or_true false = refl

digit_in_word : (d : ℕ) → 48 ≤ d → d ≤ 57 → in_word d ≡ true
digit_in_word d h k = ap (λ b. is_letter d || b) (and_from _ _ (le-leb 48 d h) (le-leb d 57 k)) ∙ or_true (is_letter d)

all_in_word : (ds : List ℕ) → AreDecimal ds → list_all in_word (reverse ds) ≡ true
all_in_word [] h = refl
all_in_word (d ∷ ds) h =
    ap (list_all in_word) (reverse-append (d ∷ []) ds) ∙ list_all-append in_word (reverse ds) (d ∷ [])
    ∙ and_from _ _ (all_in_word ds h.2) (and_from _ _ (digit_in_word d h.0 h.1) refl)

numbered_name : (ds : List ℕ) → AreDecimal ds → IsName (numbered ds)
numbered_name ds h = subst (λ b. IsTrue (b && not (is_among (numbered ds) keywords))) (sym (all_in_word ds h)) refl

drawn_name : (f : FreshNames) → AreDecimal f.digits → IsName (drawn f)
drawn_name f h = numbered_name (drawn_digits f) (drawn_decimal f h)

pub drawn_are_names : (taken : List Name) (j k : ℕ) → IsName (drawn (after_draws k (after_draws j (no_draws taken))))
drawn_are_names taken j k = drawn_name (after_draws k (after_draws j (no_draws taken))) (after_decimal k (after_draws j (no_draws taken)) (after_decimal j (no_draws taken) (lit≤ tt, lit≤ tt, tt)))

are_digits : (ds : List ℕ) → AreDecimal ds → AreDigits ds
are_digits [] h = tt
are_digits (d ∷ ds) h = (h.0, are_digits ds h.2)

apart_from : (f : FreshNames) → AreDecimal f.digits → DrawsApart f
apart_from f h j k = drawn_once (after_draws j f) (are_digits (after_draws j f).digits (after_decimal j f h)) k

pub drawn_are_apart : (taken : List Name) (k : ℕ) → DrawsApart (after_draws k (no_draws taken))
drawn_are_apart taken k = apart_from (after_draws k (no_draws taken)) (after_decimal k (no_draws taken) (lit≤ tt, lit≤ tt, tt))
