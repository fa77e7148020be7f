-- Words and numbers as the lexer sees them.
use Rattle.std.proofs.Common.{◌≡◌, ◌≢◌, ℕ, zero, suc, ◌+◌, ◌-◌, ◌^◌, ◌<◌, ◌≤◌, Bool, true, false, cond, List, [], ◌∷◌, ◌++◌, length, take, drop, get_or, refl, sym, ap, ◌∙◌, append_assoc, Option, Some, None, subst, arith, inl, inr, ◌⊎◌, length-append}
use Rattle.std.proofs.lemmas.Bool.{and_parts, and_from, or_left, or_right, or_from, and_left, both_ways, ne_eqb, eqb-true, cond-false, cond-true, lt-ltb, le-ltb, leb-true}
use Rattle.std.proofs.lemmas.Fmt.{digits_decimal, digits_value-decimal, decimal_digit, first_decimal, decimal_nonempty}
use Rattle.std.proofs.lemmas.Str.Parse.{IsNumeralModel, numerals_by_value, tells_all_ascii_digits}
use Rattle.std.proofs.lemmas.Str.{digit_value_digit}
use Rattle.std.proofs.Math.Seq.{take-append_seam, drop-append_seam}
use Rattle.std.specs.Prelude.{IsTrue, IsFalse, ◌||◌, ◌&&◌, ◌==◌, not, codes, nat_eq, nat_lt, decimal, if◌then◌else◌}
use Rattle.std.specs.Char.{is_ascii_digit, is_digit, digit_value}
use Rattle.std.specs.Cmp.Lexicographic.{pointwise}
use Rattle.std.specs.List.{list_all, ends_with}
use Rattle.std.specs.Str.{all_ascii_digits}
use Rattle.std.specs.Str.Parse.{digits_value}
use Rattle.c_tree.specs.Constants.{IsHeld}
use Rattle.c_tree.specs.declared.tree.Ty.{Ty}
use Rattle.c_tree.specs.declared.tree.Ty.TheVariants.{Int, Long}
use Rattle.c_lexer.specs.declared.token.TokenKind.{TokenKind}
use Rattle.c_lexer.specs.declared.token.TokenKind.TheVariants.{Number}
use Rattle.c_lexer.specs.declared.words.Keyword.{Keyword}
use Rattle.c_lexer.specs.declared.words.Keyword.TheVariants as k
use Rattle.c_lexer.specs.Bytes.{begins_word, goes_in_word}
use Rattle.c_lexer.specs.Lexemes.{is_word}
use Rattle.c_lexer.specs.Numbers.{is_exponent, goes_on, go_on, is_number, integer, is_suffixed, without_suffix, radix_of, digits_of, are_digits, is_in_range, type_of, is_plain_zero}
use Rattle.c_lexer.proofs.Longest.{IsOpenWord, IsOpenNumber, EndsNumber}
use Rattle.c_printer.specs.Layout.{keyword_spelling, suffix}
use Rattle.c_printer.proofs.Marks.{IsKeyword, Stops}
use Rattle.c_printer.proofs.Names.{digit_goes}

abbrev pub is_int : Ty → Bool
is_int Int = true
is_int Long = false

-- ---- words

all_joined : (w bs : List ℕ) → IsTrue (list_all goes_in_word w) → list_all goes_in_word (w ++ bs) ≡ list_all goes_in_word bs
all_joined [] bs h = refl
all_joined (c ∷ w) bs h =
    let p = and_parts (goes_in_word c) (list_all goes_in_word w) h in
    ap (λ z. z && list_all goes_in_word (w ++ bs)) p.0 ∙ all_joined w bs p.1

pub opened_word : (w : List ℕ) → IsTrue (is_word w) → IsOpenWord w
opened_word [] h bs = absurd (both_ways _ refl h)
opened_word (c ∷ w) h bs =
    let p = and_parts (begins_word c) (list_all goes_in_word w) h in
    ap (λ z. z && list_all goes_in_word (w ++ bs)) p.0 ∙ all_joined w bs p.1

pub keyword_is_word : (w : Keyword) → IsKeyword w → IsTrue (is_word (keyword_spelling w))
keyword_is_word k.Break h = refl
keyword_is_word k.Continue h = refl
keyword_is_word k.Do h = refl
keyword_is_word k.Else h = refl
keyword_is_word k.Extern h = refl
keyword_is_word k.For h = refl
keyword_is_word k.If h = refl
keyword_is_word k.Input h = refl
keyword_is_word k.Int h = refl
keyword_is_word k.Long h = refl
keyword_is_word k.Main h = refl
keyword_is_word k.OmpFill h = refl
keyword_is_word k.Print h = refl
keyword_is_word k.Return h = refl
keyword_is_word k.Void h = refl
keyword_is_word k.While h = refl
keyword_is_word k.LeftOut h = absurd h

-- ---- where a number is open

-- what goes on after these bytes is what goes on after a last one
abbrev pub OpenAfter : ℕ → List ℕ → Type 0
OpenAfter b w = (last : ℕ) × ((bs : List ℕ) → go_on b (w ++ bs) ≡ go_on last bs)

digits_open : (b : ℕ) (ds : List ℕ) → all_ascii_digits ds ≡ true → OpenAfter b ds
digits_open b [] h = (b, λ bs. refl)
digits_open b (d ∷ ds) h =
    let p = and_parts (is_ascii_digit d) (all_ascii_digits ds) h in
    let r = digits_open d ds p.1 in
    let g : goes_on b d ≡ true = or_left (goes_in_word d || d == 46) ((d == 43 || d == 45) && is_exponent b) (or_left (goes_in_word d) (d == 46) (digit_goes d p.0)) in
    (r.0, λ bs. ap (λ z. z && go_on d (ds ++ bs)) g ∙ r.1 bs)

suffix_open : (b : ℕ) (t : Ty) → OpenAfter b (suffix t)
suffix_open b Int = (b, λ bs. refl)
suffix_open b Long = (76, λ bs. refl)

both_open : (b : ℕ) (v w : List ℕ) (h : OpenAfter b v) → OpenAfter h.0 w → OpenAfter b (v ++ w)
both_open b v w h k = (k.0, λ bs. ap (go_on b) (append_assoc v w bs) ∙ h.1 (w ++ bs) ∙ k.1 bs)

pub number_open : (c : ℕ) (ds : List ℕ) (t : Ty) → is_ascii_digit c ≡ true → all_ascii_digits ds ≡ true → (last : ℕ) × IsOpenNumber last ((c ∷ ds) ++ suffix t)
number_open c ds t h k =
    let d = digits_open c ds k in
    let r = both_open c ds (suffix t) d (suffix_open d.0 t) in
    (r.0, λ bs. ap (λ z. z && go_on c ((ds ++ suffix t) ++ bs)) h ∙ r.1 bs)

pub stops_number : (last : ℕ) (bs : List ℕ) → Stops bs → EndsNumber last bs
stops_number last [] h = tt
stops_number last (b ∷ bs) h =
    let p = or_none (goes_in_word b || b == 46) (b == 43 || b == 45) h in
    or_from (goes_in_word b || b == 46) ((b == 43 || b == 45) && is_exponent last) p.0 (and_left (b == 43 || b == 45) (is_exponent last) p.1)
  where
    or_none : (x y : Bool) → (x || y) ≡ false → (x ≡ false) × (y ≡ false)
    or_none true y e = cc
    or_none false y e = (refl, e)

-- ---- the value of a number

own : IsNumeralModel (λ ds. all_ascii_digits ds ≡ true) (digits_value 10)
own = numerals_by_value _ tells_all_ascii_digits

pub decimal_digits : (v : ℕ) → v < 2 ^ 64 → all_ascii_digits (decimal v) ≡ true
decimal_digits v h = digits_decimal own v h

decimal_value : (v : ℕ) → v < 2 ^ 64 → digits_value 10 (decimal v) ≡ v
decimal_value v h = digits_value-decimal own v h

dropped : (i : ℕ) (ds : List ℕ) → all_ascii_digits ds ≡ true → all_ascii_digits (drop i ds) ≡ true
dropped zero ds h = h
dropped (suc i) [] h = refl
dropped (suc i) (d ∷ ds) h = dropped i ds (and_parts (is_ascii_digit d) (all_ascii_digits ds) h).1

no_digit_first : (c : ℕ) (r ds : List ℕ) → is_ascii_digit c ≡ false → all_ascii_digits ds ≡ true → pointwise nat_eq (c ∷ r) ds ≡ false
no_digit_first c r [] n h = refl
no_digit_first c r (d ∷ ds) n h = and_left _ _ (ne_eqb c d (λ e. both_ways _ n (ap is_ascii_digit e ∙ (and_parts (is_ascii_digit d) (all_ascii_digits ds) h).0)))

digits_unsuffixed : (ds : List ℕ) → all_ascii_digits ds ≡ true → is_suffixed ds ≡ false
digits_unsuffixed ds h = or_from _ _ (no_digit_first 76 (76 ∷ []) (drop (length ds - 2) ds) refl (dropped (length ds - 2) ds h)) (no_digit_first 108 (108 ∷ []) (drop (length ds - 2) ds) refl (dropped (length ds - 2) ds h))

digits_suffixed : (ds : List ℕ) → is_suffixed (ds ++ codes "LL") ≡ true
digits_suffixed ds =
    let n : length (ds ++ codes "LL") - 2 ≡ length ds = omega (arith, length-append ds (codes "LL")) in
    let cut : drop (length (ds ++ codes "LL") - 2) (ds ++ codes "LL") ≡ codes "LL" = ap (λ z. drop z (ds ++ codes "LL")) n ∙ drop-append_seam ds (codes "LL") in
    or_left _ _ (ap (pointwise nat_eq (codes "LL")) cut)

suffixed_of : (ds : List ℕ) (t : Ty) → all_ascii_digits ds ≡ true → is_suffixed (ds ++ suffix t) ≡ not (is_int t)
suffixed_of ds Int h = ap is_suffixed (append_none ds) ∙ digits_unsuffixed ds h
  where
    append_none : (xs : List ℕ) → xs ++ [] ≡ xs
    append_none [] = refl
    append_none (x ∷ xs) = ap (λ ys. x ∷ ys) (append_none xs)
suffixed_of ds Long h = digits_suffixed ds

unsuffixed_of : (ds : List ℕ) (t : Ty) → all_ascii_digits ds ≡ true → without_suffix (ds ++ suffix t) ≡ ds
unsuffixed_of ds Int h = cond-false _ _ _ (suffixed_of ds Int h) ∙ append_none ds
  where
    append_none : (xs : List ℕ) → xs ++ [] ≡ xs
    append_none [] = refl
    append_none (x ∷ xs) = ap (λ ys. x ∷ ys) (append_none xs)
unsuffixed_of ds Long h =
    let n : length (ds ++ codes "LL") - 2 ≡ length ds = omega (arith, length-append ds (codes "LL")) in
    cond-true _ _ _ (digits_suffixed ds) ∙ ap (λ z. take z (ds ++ codes "LL")) n ∙ take-append_seam ds (codes "LL")

radix_is_ten : (a : ℕ) (ds : List ℕ) → a ≢ 48 → radix_of (a ∷ ds) ≡ 10
radix_is_ten a [] n = refl
radix_is_ten a (b ∷ ds) n = cond-false _ _ _ (ne_eqb a 48 n)

digits_are_all : (a : ℕ) (ds : List ℕ) → a ≢ 48 → digits_of (a ∷ ds) ≡ a ∷ ds
digits_are_all a [] n = refl
digits_are_all a (b ∷ ds) n = cond-false _ _ _ (ne_eqb a 48 n)

decimal_digit_of : (d : ℕ) → is_ascii_digit d ≡ true → is_digit d 10 ≡ true
decimal_digit_of d h =
    let p = and_parts _ _ h in
    let lo : 48 ≤ d = leb-true 48 d p.0 in
    let hi : d ≤ 57 = leb-true d 57 p.1 in
    let e = digit_value_digit d (lo, hi) in
    lt-ltb (digit_value d) 10 (omega arith)

all_decimal : (ds : List ℕ) → all_ascii_digits ds ≡ true → list_all (λ d. is_digit d 10) ds ≡ true
all_decimal [] h = refl
all_decimal (d ∷ ds) h =
    let p = and_parts (is_ascii_digit d) (all_ascii_digits ds) h in
    and_from _ _ (decimal_digit_of d p.0) (all_decimal ds p.1)

first_of : (ds : List ℕ) → 0 < length ds → (c : ℕ) × (cs : List ℕ) × (ds ≡ c ∷ cs)
first_of [] h = absurd (omega arith)
first_of (c ∷ cs) h = (c, cs, refl)

-- a digit and further digits
pub decimal_parts : (v : ℕ) → v < 2 ^ 64 → (c : ℕ) × (cs : List ℕ) × (decimal v ≡ c ∷ cs) × (is_ascii_digit c ≡ true) × (all_ascii_digits cs ≡ true)
decimal_parts v h =
    let r = first_of (decimal v) (decimal_nonempty v h) in
    let all : all_ascii_digits (r.0 ∷ r.1) ≡ true = ap all_ascii_digits (sym r.2) ∙ decimal_digits v h in
    let p = and_parts (is_ascii_digit r.0) (all_ascii_digits r.1) all in
    (r.0, r.1, r.2, p.0, p.1)

first_is_no_zero : (v c : ℕ) (cs : List ℕ) → 0 < v → v < 2 ^ 64 → decimal v ≡ c ∷ cs → c ≢ 48
first_is_no_zero v c cs p h e k =
    let first = first_decimal v p h in
    let same : get_or (decimal v) 0 0 ≡ c = ap (λ z. get_or z 0 0) e in
    omega arith

is_below : (v : ℕ) (t : Ty) → IsHeld t v → v < 2 ^ 63
is_below v Int h = omega arith
is_below v Long h = h

abbrev body : Bool → ℕ → List ℕ → ℕ → Bool → Option TokenKind
body long radix ds value z = if are_digits radix ds && is_in_range long radix value then Some (Number value (type_of long value) z) else None

in_range : (long : Bool) (v : ℕ) → v < 2 ^ 63 → is_in_range long 10 v ≡ true
in_range true v h = and_from _ _ (lt-ltb v (2 ^ 63) h) refl
in_range false v h = and_from _ _ (lt-ltb v (2 ^ 63) h) refl

assembled : (w ds : List ℕ) (long z : Bool) (v : ℕ) (t : Ty) → is_suffixed w ≡ long → without_suffix w ≡ ds → radix_of ds ≡ 10 → digits_of ds ≡ ds → digits_value 10 ds ≡ v
    → are_digits 10 ds ≡ true → v < 2 ^ 63 → type_of long v ≡ t → is_plain_zero w ≡ z → integer w ≡ Some (Number v t z)
assembled w ds long z v t e_long e_ds e_radix e_digits e_value all below e_type e_zero =
    ap (λ l. body l (radix_of (without_suffix w)) (digits_of (without_suffix w)) (digits_value (radix_of (without_suffix w)) (digits_of (without_suffix w))) (is_plain_zero w)) e_long
    ∙ ap (λ n. body long (radix_of n) (digits_of n) (digits_value (radix_of n) (digits_of n)) (is_plain_zero w)) e_ds
    ∙ ap (λ r. body long r (digits_of ds) (digits_value r (digits_of ds)) (is_plain_zero w)) e_radix
    ∙ ap (λ n. body long 10 n (digits_value 10 n) (is_plain_zero w)) e_digits
    ∙ ap (λ x. body long 10 ds x (is_plain_zero w)) e_value
    ∙ ap (λ x. body long 10 ds v x) e_zero
    ∙ cond-true _ _ _ (and_from _ _ all (in_range long v below))
    ∙ ap (λ x. Some (Number v x z)) e_type

type_is : (v : ℕ) (t : Ty) → IsHeld t v → type_of (not (is_int t)) v ≡ t
type_is v Int h = cond-false _ _ _ (le-ltb (2 ^ 31 - 1) v (omega arith))
type_is v Long h = refl

digits_are : (ds : List ℕ) → 0 < length ds → all_ascii_digits ds ≡ true → are_digits 10 ds ≡ true
digits_are [] h k = absurd (omega arith)
digits_are (d ∷ ds) h k = and_from _ _ (ap not (ne_eqb (length (d ∷ ds)) 0 (λ e. omega arith))) (all_decimal (d ∷ ds) k)

longer_is_no_zero : (v c : ℕ) (cs : List ℕ) (t : Ty) → c ≢ 48 → 0 < v → is_plain_zero ((c ∷ cs) ++ suffix t) ≡ (is_int t && (v == 0))
longer_is_no_zero v c [] Int n h = ne_eqb c 48 n ∙ sym (ne_eqb v 0 (λ e. omega arith))
longer_is_no_zero v c [] Long n h = refl
longer_is_no_zero v c (d ∷ cs) Int n h = sym (ne_eqb v 0 (λ e. omega arith))
longer_is_no_zero v c (d ∷ cs) Long n h = refl

zero_is : (t : Ty) → is_plain_zero (decimal 0 ++ suffix t) ≡ (is_int t && (0 == 0))
zero_is Int = ap (λ z. is_plain_zero (z ++ suffix Int)) (decimal_digit 0 (omega arith))
zero_is Long = ap (λ z. is_plain_zero (z ++ suffix Long)) (decimal_digit 0 (omega arith))

-- a printed number is the constant of its value and type
pub number_is_constant : (v : ℕ) (t : Ty) → IsHeld t v → integer (decimal v ++ suffix t) ≡ Some (Number v t (is_int t && (v == 0)))
number_is_constant zero t h =
    let small : 0 < 2 ^ 64 = omega arith in
    let all = decimal_digits 0 small in
    assembled (decimal 0 ++ suffix t) (decimal 0) (not (is_int t)) (is_int t && (0 == 0)) 0 t (suffixed_of (decimal 0) t all) (unsuffixed_of (decimal 0) t all)
    (ap radix_of (decimal_digit 0 (omega arith))) (ap digits_of (decimal_digit 0 (omega arith)) ∙ sym (decimal_digit 0 (omega arith)))
    (decimal_value 0 small) (digits_are (decimal 0) (decimal_nonempty 0 small) all) (omega arith) (type_is 0 t h) (zero_is t)
number_is_constant (suc n) t h =
    let v : ℕ = suc n in
    let below : v < 2 ^ 63 = is_below v t h in
    let small : v < 2 ^ 64 = omega arith in
    let all = decimal_digits v small in
    let r = decimal_parts v small in
    let n : r.0 ≢ 48 = first_is_no_zero v r.0 r.1 (omega arith) small r.2 in
    assembled (decimal v ++ suffix t) (decimal v) (not (is_int t)) (is_int t && (v == 0)) v t (suffixed_of (decimal v) t all) (unsuffixed_of (decimal v) t all)
    (ap radix_of r.2 ∙ radix_is_ten r.0 r.1 n) (ap digits_of r.2 ∙ digits_are_all r.0 r.1 n ∙ sym r.2)
    (decimal_value v small) (digits_are (decimal v) (decimal_nonempty v small) all) below (type_is v t h)
    (ap (λ z. is_plain_zero (z ++ suffix t)) r.2 ∙ longer_is_no_zero v r.0 r.1 t n (omega arith))
