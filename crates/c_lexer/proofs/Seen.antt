-- What the class of a byte tells of it.
use Rattle.std.proofs.Common.{◌≡◌, ◌≢◌, ◌⊎◌, ℕ, true, false, List, [], ◌∷◌, ◌<◌, ◌≤◌, ◌||◌, cond, sym, ap, ◌∙◌, arith, inl, inr}
use Rattle.std.proofs.lemmas.Bool.{cond_both, eqb-true, eqb-false, ne_eqb, or_cases, or_from, and_parts, leb-true, false_from_ne_true, cond-true, cond-false}
use Rattle.std.specs.Prelude.{IsTrue, IsFalse, ◌==◌}
use Rattle.std.specs.Char.{is_ascii_digit}
use Rattle.std.specs.Int.{is_in_range}
use Rattle.c_lexer.specs.declared.class.Class.{Class}
use Rattle.c_lexer.specs.declared.class.Class.TheVariants.{Feed, Blank, Backslash, Letter, Digit, Hash, Punct as Punctuation, Other}
use Rattle.c_lexer.specs.Bytes.{is_blank, is_feed, begins_word}
use Rattle.c_lexer.specs.Lexemes.{spelling}
use Rattle.c_lexer.specs.Classes.{class_of, class_of_mark}

-- a byte of no other class
pub record IsOther (b : ℕ) : Type 0 where
  pub no_feed : IsFalse (is_feed b)
  pub no_blank : IsFalse (is_blank b)
  pub no_backslash : b ≢ 92
  pub no_letter : IsFalse (begins_word b)
  pub no_digit : IsFalse (is_ascii_digit b)
  pub no_hash : b ≢ 35

-- what a class tells of its bytes
abbrev pub Tells : ℕ → Class → Type 0
Tells b Feed = b ≡ 10
Tells b Blank = IsTrue (is_blank b)
Tells b Backslash = b ≡ 92
Tells b Letter = IsTrue (begins_word b)
Tells b Digit = IsTrue (is_ascii_digit b)
Tells b Hash = b ≡ 35
Tells b (Punctuation p) = spelling p ≡ b ∷ []
Tells b Other = IsOther b

-- the first of two tests, and what is told otherwise
chosen : (b n : ℕ) (k m : Class) → (b ≡ n → Tells b k) → Tells b m → Tells b (cond (b == n) k m)
chosen b n k m here else_ = cond_both (b == n) k m (Tells b) (λ e. here (eqb-true b n e)) (λ e. else_)

one_byte : (b n : ℕ) → b ≡ n → ◌≡◌ {A = List ℕ} (n ∷ []) (b ∷ [])
one_byte b n e = ap (λ x. x ∷ []) (sym e)

mark_tells : (b : ℕ) → IsOther b → Tells b (class_of_mark b)
mark_tells b other =
    chosen b 33 _ _ (one_byte b 33) (chosen b 37 _ _ (one_byte b 37) (chosen b 38 _ _ (one_byte b 38) (chosen b 40 _ _ (one_byte b 40)
    (chosen b 41 _ _ (one_byte b 41) (chosen b 42 _ _ (one_byte b 42) (chosen b 43 _ _ (one_byte b 43) (chosen b 44 _ _ (one_byte b 44)
    (chosen b 45 _ _ (one_byte b 45) (chosen b 46 _ _ (one_byte b 46) (chosen b 47 _ _ (one_byte b 47) (chosen b 58 _ _ (one_byte b 58)
    (chosen b 59 _ _ (one_byte b 59) (chosen b 60 _ _ (one_byte b 60) (chosen b 61 _ _ (one_byte b 61) (chosen b 62 _ _ (one_byte b 62)
    (chosen b 63 _ _ (one_byte b 63) (chosen b 91 _ _ (one_byte b 91) (chosen b 93 _ _ (one_byte b 93) (chosen b 94 _ _ (one_byte b 94)
    (chosen b 123 _ _ (one_byte b 123) (chosen b 124 _ _ (one_byte b 124) (chosen b 125 _ _ (one_byte b 125) (chosen b 126 _ _ (one_byte b 126)
    other)))))))))))))))))))))))

pub tells : (b : ℕ) → Tells b (class_of b)
tells b =
    cond_both (is_feed b) _ _ (Tells b) (λ e. eqb-true b 10 e) (λ no_feed.
    cond_both (is_blank b) _ _ (Tells b) (λ e. e) (λ no_blank.
    cond_both (b == 92) _ _ (Tells b) (λ e. eqb-true b 92 e) (λ no_backslash.
    cond_both (begins_word b) _ _ (Tells b) (λ e. e) (λ no_letter.
    cond_both (is_ascii_digit b) _ _ (Tells b) (λ e. e) (λ no_digit.
    cond_both (b == 35) _ _ (Tells b) (λ e. eqb-true b 35 e) (λ no_hash.
    mark_tells b (record { no_feed = no_feed; no_blank = no_blank; no_backslash = eqb-false b 92 no_backslash; no_letter = no_letter; no_digit = no_digit; no_hash = eqb-false b 35 no_hash })))))))

range_bounds : (lo hi b : ℕ) → is_in_range lo hi b ≡ true → (lo ≤ b) × (b ≤ hi)
range_bounds lo hi b e = let h = and_parts _ _ e in (leb-true lo b h.0, leb-true b hi h.1)

-- which bytes begin a word
pub letter_bounds : (b : ℕ) → begins_word b ≡ true → (b ≡ 95) ⊎ ((65 ≤ b) × (b ≤ 90)) ⊎ ((97 ≤ b) × (b ≤ 122))
letter_bounds b e = by (or_cases _ _ e)
  where
    small : ((is_in_range 65 90 b ≡ true) ⊎ (is_in_range 97 122 b ≡ true)) → (b ≡ 95) ⊎ ((65 ≤ b) × (b ≤ 90)) ⊎ ((97 ≤ b) × (b ≤ 122))
    small (inl h) = inr (inl (range_bounds 65 90 b h))
    small (inr h) = inr (inr (range_bounds 97 122 b h))

    by : ((is_in_range 65 90 b || is_in_range 97 122 b) ≡ true) ⊎ ((b == 95) ≡ true) → (b ≡ 95) ⊎ ((65 ≤ b) × (b ≤ 90)) ⊎ ((97 ≤ b) × (b ≤ 122))
    by (inl h) = small (or_cases _ _ h)
    by (inr h) = inl (eqb-true b 95 h)

pub digit_bounds : (b : ℕ) → is_ascii_digit b ≡ true → (48 ≤ b) × (b ≤ 57)
digit_bounds b e = range_bounds 48 57 b e

-- a byte above 13 that is no space is no white space
no_blank_at : (b : ℕ) → 32 ≤ b → b ≢ 32 → is_blank b ≡ false
no_blank_at b h n = or_from _ _ (or_from _ _ (or_from _ _ (or_from _ _ (ne_eqb b 32 n) (ne_eqb b 9 (λ e. omega arith))) (ne_eqb b 11 (λ e. omega arith))) (ne_eqb b 12 (λ e. omega arith))) (ne_eqb b 13 (λ e. omega arith))

-- what a letter and a digit are not
pub letter_apart : (b : ℕ) → begins_word b ≡ true → (64 < b) × (b ≢ 92)
letter_apart b e = by (letter_bounds b e)
  where
    by : ((b ≡ 95) ⊎ ((65 ≤ b) × (b ≤ 90)) ⊎ ((97 ≤ b) × (b ≤ 122))) → (64 < b) × (b ≢ 92)
    by (inl h) = (omega arith, λ e. omega arith)
    by (inr (inl h)) = (omega arith, λ e. omega arith)
    by (inr (inr h)) = (omega arith, λ e. omega arith)

not_feed : (b : ℕ) → 32 < b → is_feed b ≡ false
not_feed b h = ne_eqb b 10 (λ e. omega arith)

no_digit_above : (b : ℕ) → 57 < b → is_ascii_digit b ≡ false
no_digit_above b h = false_from_ne_true _ (λ e. let k = digit_bounds b e in omega arith)

pub digit_no_letter : (b : ℕ) → is_ascii_digit b ≡ true → begins_word b ≡ false
digit_no_letter b e = false_from_ne_true _ (λ l. let k = digit_bounds b e in let h = letter_apart b l in omega arith)

pub class_letter : (b : ℕ) → begins_word b ≡ true → class_of b ≡ Letter
class_letter b e =
    let h = letter_apart b e in
    cond-false _ _ _ (not_feed b (omega arith)) ∙ cond-false _ _ _ (no_blank_at b (omega arith) (λ k. omega arith)) ∙
    cond-false _ _ _ (ne_eqb b 92 h.1) ∙ cond-true _ _ _ e

pub class_digit : (b : ℕ) → is_ascii_digit b ≡ true → class_of b ≡ Digit
class_digit b e =
    let h = digit_bounds b e in
    cond-false _ _ _ (not_feed b (omega arith)) ∙ cond-false _ _ _ (no_blank_at b (omega arith) (λ k. omega arith)) ∙
    cond-false _ _ _ (ne_eqb b 92 (λ k. omega arith)) ∙ cond-false _ _ _ (digit_no_letter b e) ∙ cond-true _ _ _ e
