-- The tokens of a text are sound.
use Rattle.std.proofs.Common.{◌≡◌, ℕ, ◌<◌, ◌^◌, Bool, true, false, ◌&&◌, ◌||◌, not, cond, List, [], ◌∷◌, ◌++◌, Option, Some, None, IsTrue, refl, rules, arith, nat_lt, nat_le, subst, sym, bytes_eq, if◌then◌else◌, ◌+◌, ◌-◌}
use Rattle.std.proofs.lemmas.Slice.Eq.{bytes_eq-Decides}
use Rattle.std.specs.List.{list_all, list_any}
use Rattle.c_tree.specs.Bare.{Name}
use Rattle.c_tree.specs.declared.tree.Span.{Span}
use Rattle.c_tree.specs.WellFormed.{IsName, is_letter, is_digit, is_word as is_tree_word, keywords as tree_keywords}
use Rattle.c_tree.specs.NameRules.DeclaredNames.{is_among}
use Rattle.c_tree.specs.Constants.{IsHeld}
use Rattle.c_lexer.specs.Bytes.{begins_word, goes_in_word}
use Rattle.c_lexer.specs.declared.token.Token.{Token}
use Rattle.c_lexer.specs.declared.token.TokenKind.{TokenKind}
use Rattle.c_lexer.specs.declared.token.TokenKind.TheVariants as k
use Rattle.c_lexer.specs.declared.words.Keyword.{Keyword}
use Rattle.c_lexer.specs.declared.words.Keyword.TheVariants.{LeftOut}
use Rattle.c_lexer.specs.Words.{keyword_of, keywords, found_in}
use Rattle.c_lexer.specs.Lexemes.{is_word, Spells}
use Rattle.c_lexer.specs.Numbers.{integer, is_number, is_suffixed, without_suffix, radix_of, digits_of, are_digits, is_in_range, type_of, is_plain_zero}
use Rattle.std.specs.Str.Parse.{digits_value}
use Rattle.c_tree.specs.declared.tree.Ty.{Ty}
use Rattle.c_tree.specs.declared.tree.Ty.TheVariants.{Int, Long}
use Rattle.c_lexer.specs.declared.context.Line.{Line}
use Rattle.c_lexer.specs.declared.context.Line.TheVariants.{Fresh, Begun, Directive}
use Rattle.c_lexer.specs.Cut.{Side, Piece, blank, feed, joins, comment, hash, lexeme, Answer, tokens, fault, after, with_first, Lexes, ends, stops, goes, Cut, line_end}
use Rattle.pragma_grammar.specs.Symbols.{Symbol, static, keyword, is_static, symbol, symbols, symbol_of, word_symbol}
use Rattle.pragma_grammar.specs.Sound.{IsSound, AreSound}

-- ---- words

letter_of : (b : ℕ) → IsTrue (begins_word b) → IsTrue (is_letter b)
letter_of b is = grind arith

in_name : (b : ℕ) → IsTrue (goes_in_word b) → IsTrue (is_letter b || is_digit b)
in_name b is = grind arith

both : (a b : Bool) → IsTrue (a && b) → IsTrue a × IsTrue b
both true b is = (refl, is)
both false b is = cc

and_too : (a b : Bool) → IsTrue a → IsTrue b → IsTrue (a && b)
and_too a b x y = rw (x, y) refl

all_in_name : (bs : List ℕ) → IsTrue (list_all goes_in_word bs) → IsTrue (list_all (λ d. is_letter d || is_digit d) bs)
all_in_name [] is = refl
all_in_name (b ∷ bs) is = let a = both (goes_in_word b) (list_all goes_in_word bs) is in and_too _ _ (in_name b a.0) (all_in_name bs a.1)

word_of : (w : List ℕ) → IsTrue (is_word w) → IsTrue (is_tree_word w)
word_of [] is = cc
word_of (b ∷ bs) is = let a = both (begins_word b) (list_all goes_in_word bs) is in and_too _ _ (letter_of b a.0) (all_in_name bs a.1)

same_backwards : (x y : List ℕ) → bytes_eq x y ≡ false → bytes_eq y x ≡ false
same_backwards x y apart = split (bytes_eq y x) refl
  where
    split : (b : Bool) → bytes_eq y x ≡ b → bytes_eq y x ≡ false
    split true is = let same : x ≡ y = sym ((bytes_eq-Decides y x).0 is) in let t = (bytes_eq-Decides x y).1 same in cc
    split false is = is

abbrev words_of : List (List ℕ × Keyword) → List (List ℕ)
words_of [] = []
words_of (entry ∷ entries) = entry.0 ∷ words_of entries

none_found : (entries : List (List ℕ × Keyword)) (w : List ℕ) → found_in entries w ≡ None → list_any (bytes_eq w) (words_of entries) ≡ false
none_found [] w none = refl
none_found (entry ∷ entries) w none = split (bytes_eq entry.0 w) refl none (none_found entries w)
  where
    split : (b : Bool) → bytes_eq entry.0 w ≡ b → (if b then Some entry.1 else found_in entries w) ≡ None →
        (found_in entries w ≡ None → list_any (bytes_eq w) (words_of entries) ≡ false) →
        (bytes_eq w entry.0 || list_any (bytes_eq w) (words_of entries)) ≡ false
    split true is n rest = cc
    split false is n rest = rw (same_backwards entry.0 w is) (rest n)

same_table : words_of keywords ≡ tree_keywords
same_table = refl

no_keyword : (w : List ℕ) → keyword_of w ≡ None → is_among w tree_keywords ≡ false
unfolding keyword_of
no_keyword w none = none_found keywords w none

name_of : (w : List ℕ) → IsTrue (is_word w) → keyword_of w ≡ None → IsName w
name_of w is none = and_too (is_tree_word w) (not (is_among w tree_keywords)) (word_of w is) (rw (no_keyword w none) refl)

sound_keyword : (w : List ℕ) (s : Span) (keyword' : Keyword) → IsSound (word_symbol w (Some keyword') s)
sound_keyword w s LeftOut = split (is_static w)
  where
    split : (b : Bool) → IsSound (cond b (static s) (keyword LeftOut s))
    split true = tt
    split false = tt
sound_keyword w s _ = tt

sound_word : (w : List ℕ) (s : Span) → IsTrue (is_word w) → IsSound (word_symbol w (keyword_of w) s)
sound_word w s is = split (keyword_of w) refl
  where
    split : (o : Option Keyword) → keyword_of w ≡ o → IsSound (word_symbol w o s)
    split None none = name_of w is none
    split (Some keyword') found = sound_keyword w s keyword'

-- ---- numbers

type_holds : (long : Bool) (radix v : ℕ) → is_in_range long radix v ≡ true → IsHeld (type_of long v) v
type_holds long radix v is = split (long || nat_lt (2 ^ 31 - 1) v) refl
  where
    split : (b : Bool) → (long || nat_lt (2 ^ 31 - 1) v) ≡ b → IsHeld (if b then Long else Int) v
    split true above = grind arith
    split false below = grind arith

same_number : {v value : ℕ} {t ty : Ty} {z zero : Bool} → Some (k.Number v t z) ≡ Some (k.Number value ty zero) → (v ≡ value) × (t ≡ ty)
same_number same = (cc, cc)

is_held : (w : List ℕ) (value : ℕ) (ty : Ty) (zero : Bool) → integer w ≡ Some (k.Number value ty zero) → IsHeld ty value
is_held w value ty zero is =
    split (are_digits (radix_of (without_suffix w)) (digits_of (without_suffix w)) && is_in_range (is_suffixed w) (radix_of (without_suffix w)) v) refl is
  where
    v : ℕ
    v = digits_value (radix_of (without_suffix w)) (digits_of (without_suffix w))

    split : (b : Bool) → (are_digits (radix_of (without_suffix w)) (digits_of (without_suffix w)) && is_in_range (is_suffixed w) (radix_of (without_suffix w)) v) ≡ b →
        (if b then Some (k.Number v (type_of (is_suffixed w) v) (is_plain_zero w)) else None) ≡ Some (k.Number value ty zero) → IsHeld ty value
    split true in_range same =
        let held = type_holds (is_suffixed w) (radix_of (without_suffix w)) v (both (are_digits (radix_of (without_suffix w)) (digits_of (without_suffix w))) _ in_range).1 in
        let eqs = same_number same in
        subst (λ n. IsHeld ty n) eqs.0 (subst (λ t. IsHeld t v) eqs.1 held)
    split false in_range same = cc

-- ---- tokens

sound_token : (kind : TokenKind) (s : Span) (w : List ℕ) → Spells kind w → IsSound (symbol_of kind s)
sound_token (k.Word name) s w is = subst (λ x. IsSound (symbol_of (k.Word x) s)) (sym is.1) (sound_word w s is.0)
sound_token (k.Number value ty zero) s w is = is_held w value ty zero is.1
sound_token (k.Punct p) s w is = tt
sound_token k.Hash s w is = absurd is
sound_token k.LineEnd s w is = absurd is
sound_token k.End s w is = absurd is

line_end_is_sound : (line : Line) (at : ℕ) → AreSound (symbols (line_end line at))
line_end_is_sound Fresh at = tt
line_end_is_sound Begun at = tt
line_end_is_sound Directive at = (tt, tt)

sound_piece : {total : ℕ} {s t : Side} {bs cs : List ℕ} {ts : List Token} → Piece total s bs ts t cs → AreSound (symbols ts)
sound_piece (blank is) = tt
sound_piece {total = total} {s = s} {bs = bs} (feed is) = line_end_is_sound s.line _
sound_piece (joins are allowed) = tt
sound_piece (comment is) = tt
sound_piece (hash is fresh) = (tt, tt)
sound_piece {bs = bs} {cs = cs} (lexeme {kind = kind} {w = w} no_comment longest spells) = (sound_token kind _ w spells, tt)

sound_append : (ts us : List Token) → AreSound (symbols ts) → AreSound (symbols us) → AreSound (symbols (ts ++ us))
sound_append [] us a b = b
sound_append (t ∷ ts) us a b = (a.0, sound_append ts us a.1 b)

-- ---- texts

abbrev AnswerIsSound : Answer → Type 0
AnswerIsSound (tokens ts) = AreSound (symbols ts)
AnswerIsSound (fault kind at) = Unit {0}

sound_first : (t : Token) (a : Answer) → IsSound (symbol t) → AnswerIsSound a → AnswerIsSound (with_first t a)
sound_first t (tokens ts) one rest = (one, rest)
sound_first t (fault kind at) one rest = tt

sound_after : (ts : List Token) (a : Answer) → AreSound (symbols ts) → AnswerIsSound a → AnswerIsSound (after ts a)
sound_after [] a are rest = rest
sound_after (t ∷ ts) a are rest = sound_first t (after ts a) are.0 (sound_after ts a are.1 rest)

sound_answer : {total : ℕ} {s : Side} {bs : List ℕ} {a : Answer} → Lexes total s bs a → AnswerIsSound a
sound_answer (ends {s = s}) = sound_append (line_end s.line _) _ (line_end_is_sound s.line _) (tt, tt)
sound_answer (stops is) = tt
sound_answer (goes {ts = ts} {a = a} piece rest) = sound_after ts a (sound_piece piece) (sound_answer rest)

pub sound_cut : {text : List ℕ} {ts : List Token} → Cut text ts → AreSound (symbols ts)
sound_cut cut = sound_answer cut
