-- The names of well-formed trees are words, and no keywords to the lexer.
use Rattle.std.proofs.Common.{◌≡◌, ℕ, Bool, true, false, List, [], ◌∷◌, refl, sym, ap, ◌∙◌, Option, Some, None, inl, inr, ◌⊎◌, map}
use Rattle.std.proofs.lemmas.Bool.{and_parts, and_from, or_cases, or_left, or_right, both_ways, not-true, false_from_ne_true, cond-false}
use Rattle.std.proofs.lemmas.Slice.Eq.{bytes_eq-Decides}
use Rattle.std.specs.Prelude.{IsTrue, IsFalse, ◌||◌, ◌&&◌, ◌==◌, not, bytes_eq}
use Rattle.std.specs.Char.{is_ascii_alphabetic, is_ascii_digit}
use Rattle.std.specs.Int.{is_in_range}
use Rattle.std.specs.List.{list_all, list_any}
use Rattle.c_tree.specs.WellFormed as t
use Rattle.c_tree.specs.WellFormed.{IsName}
use Rattle.c_tree.specs.NameRules.DeclaredNames.{is_among}
use Rattle.c_lexer.specs.declared.words.Keyword.{Keyword}
use Rattle.c_lexer.specs.Bytes.{begins_word, goes_in_word}
use Rattle.c_lexer.specs.Lexemes.{is_word}
use Rattle.c_lexer.specs.Words.{keywords, found_in, keyword_of}

abbrev is_upper : ℕ → Bool
is_upper c = is_in_range 65 90 c

abbrev is_lower : ℕ → Bool
is_lower c = is_in_range 97 122 c

pub digit_goes : (c : ℕ) → is_ascii_digit c ≡ true → goes_in_word c ≡ true
digit_goes c h = or_left (is_ascii_digit c || is_upper c || is_lower c) (c == 95) (or_left (is_ascii_digit c || is_upper c) (is_lower c) (or_left (is_ascii_digit c) (is_upper c) h))

pub letter_goes : (c : ℕ) → begins_word c ≡ true → goes_in_word c ≡ true
letter_goes c h = by (or_cases (is_ascii_alphabetic c) (c == 95) h)
  where
    in_case : ((is_upper c ≡ true) ⊎ (is_lower c ≡ true)) → goes_in_word c ≡ true
    in_case (inl k) = or_left (is_ascii_digit c || is_upper c || is_lower c) (c == 95) (or_left (is_ascii_digit c || is_upper c) (is_lower c) (or_right (is_ascii_digit c) (is_upper c) k))
    in_case (inr k) = or_left (is_ascii_digit c || is_upper c || is_lower c) (c == 95) (or_right (is_ascii_digit c || is_upper c) (is_lower c) k)

    by : ((is_ascii_alphabetic c ≡ true) ⊎ ((c == 95) ≡ true)) → goes_in_word c ≡ true
    by (inl k) = in_case (or_cases (is_upper c) (is_lower c) k)
    by (inr k) = or_right (is_ascii_digit c || is_upper c || is_lower c) (c == 95) k

byte_goes : (c : ℕ) → (t.is_letter c || t.is_digit c) ≡ true → goes_in_word c ≡ true
byte_goes c h = by (or_cases (t.is_letter c) (t.is_digit c) h)
  where
    by : ((t.is_letter c ≡ true) ⊎ (t.is_digit c ≡ true)) → goes_in_word c ≡ true
    by (inl k) = letter_goes c k
    by (inr k) = digit_goes c k

all_go : (cs : List ℕ) → list_all (λ d. t.is_letter d || t.is_digit d) cs ≡ true → list_all goes_in_word cs ≡ true
all_go [] h = refl
all_go (c ∷ cs) h =
    let p = and_parts (t.is_letter c || t.is_digit c) (list_all (λ d. t.is_letter d || t.is_digit d) cs) h in
    and_from _ _ (byte_goes c p.0) (all_go cs p.1)

same_word : (x : List ℕ) → IsTrue (t.is_word x) → IsTrue (is_word x)
same_word [] h = h
same_word (c ∷ cs) h =
    let p = and_parts (t.is_letter c) (list_all (λ d. t.is_letter d || t.is_digit d) cs) h in
    and_from (begins_word c) _ p.0 (all_go cs p.1)

pub name_is_word : (x : List ℕ) → IsName x → IsTrue (is_word x)
name_is_word x h = same_word x (and_parts (t.is_word x) (not (is_among x t.keywords)) h).0

differs : (x w : List ℕ) → bytes_eq x w ≡ false → bytes_eq w x ≡ false
differs x w h = false_from_ne_true (bytes_eq w x) (λ k. both_ways _ h ((bytes_eq-Decides x w).1 (sym ((bytes_eq-Decides w x).0 k))))

pub or_none : (a b : Bool) → (a || b) ≡ false → (a ≡ false) × (b ≡ false)
or_none true b h = cc
or_none false b h = (refl, h)

none_found : (es : List (List ℕ × Keyword)) (x : List ℕ) → list_any (bytes_eq x) (map (λ e. e.0) es) ≡ false → found_in es x ≡ None
none_found [] x h = refl
none_found (e ∷ es) x h =
    let p = or_none (bytes_eq x e.0) (list_any (bytes_eq x) (map (λ f. f.0) es)) h in
    cond-false _ _ _ (differs x e.0 p.0) ∙ none_found es x p.1

pub name_is_no_keyword : (x : List ℕ) → IsName x → keyword_of x ≡ None
unfolding keyword_of
name_is_no_keyword x h = none_found keywords x (not-true _ (and_parts (t.is_word x) (not (is_among x t.keywords)) h).1)
