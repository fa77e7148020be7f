-- A byte that begins a piece: what completes the state after it completes the text from it on.
use Rattle.std.proofs.Common.{◌≡◌, ◌≢◌, ℕ, ◌+◌, ◌&&◌, List, [], ◌∷◌, ◌++◌, length, refl, sym, ap, subst, subst₂, arith, inl, inr}
use Rattle.std.specs.Prelude.{IsTrue}
use Rattle.std.specs.List.{list_all}
use Rattle.std.specs.Char.{is_ascii_digit}
use Rattle.std.proofs.lemmas.Bool.{false≢true, eq-eqb}
use Rattle.c_lexer.specs.declared.class.Class.{Class}
use Rattle.c_lexer.specs.declared.class.Class.TheVariants.{Feed, Blank, Backslash as BackslashByte, Letter, Digit, Hash as HashByte, Punct as Punctuation, Other}
use Rattle.c_lexer.specs.declared.context.Line.{Line}
use Rattle.c_lexer.specs.declared.context.Line.TheVariants.{Fresh, Begun, Directive}
use Rattle.c_lexer.specs.declared.context.Before.{Before}
use Rattle.c_lexer.specs.declared.context.Before.TheVariants.{Free}
use Rattle.c_lexer.specs.declared.token.Punct.{Punct}
use Rattle.c_lexer.specs.declared.token.TokenKind.TheVariants.{Hash}
use Rattle.c_lexer.specs.declared.token.LexKind.TheVariants.{BadByte}
use Rattle.c_lexer.specs.Bytes.{is_feed, begins_word, goes_in_word, before_feed, before_return, NoJoin}
use Rattle.c_lexer.specs.Lexemes.{IsLexeme}
use Rattle.c_lexer.specs.Numbers.{go_on}
use Rattle.c_lexer.specs.Cut.{side, token, line_end, blank, feed, hash, bad_byte, Answer, after, Lexes, goes}
use Rattle.c_lexer.specs.Classes.{class_of}
use Rattle.c_lexer.specs.Machine
use Rattle.c_lexer.specs.Machine.{State, Move, begin_class, begin}
use Rattle.c_lexer.proofs.Seen.{Tells, tells}
use Rattle.c_lexer.proofs.Longest.{none_other, IsOpenWord, IsOpenNumber, punct_class}
use Rattle.c_lexer.proofs.Meaning.{Next, SoundNext, place_at, fault_stops}

pub no_join_at : (b : ℕ) (bs : List ℕ) → b ≢ 92 → NoJoin (b ∷ bs)
no_join_at b bs n cs (before_feed e f) = n e
no_join_at b bs n cs (before_return e f g) = n e

-- `#` begins no lexeme
no_hash_punct : (k : Class) (q : Punct) → k ≡ HashByte → k ≡ Punctuation q → ⊥
no_hash_punct k q e f = cc

no_lexeme_at_hash : (w : List ℕ) → IsLexeme (35 ∷ w) → ⊥
no_lexeme_at_hash w (inl h) = false≢true h
no_lexeme_at_hash w (inr (inl h)) = false≢true h
no_lexeme_at_hash w (inr (inr h)) = let k = punct_class h.0 35 w h.1 in no_hash_punct (class_of 35) k.0 refl k.1

hash_from : (total : ℕ) (line : Line) (before : Before) (at : ℕ) (bs : List ℕ) (a : Answer) → at + length (35 ∷ bs) ≡ total →
    Next total (Machine.hash line at) bs a → Lexes total (side line before) (35 ∷ bs) (after (Machine.hash line at).whole a)
hash_from total Fresh before at bs a e h =
    subst₂ (λ m n. Lexes total (side Fresh before) (35 ∷ bs) (after (token Hash m n ∷ []) a)) (place_at total at (35 ∷ bs) e) (place_at total (at + 1) bs (omega arith)) (goes (hash refl refl) h)
hash_from total Begun before at bs a e h = fault_stops total (side Begun before) BadByte at (35 ∷ bs) a e (bad_byte (record { no_blank = refl; no_feed = refl; no_join = no_join_at 35 bs (λ k. omega arith); no_hash = λ f g. cc; no_lexeme = no_lexeme_at_hash })) h
hash_from total Directive before at bs a e h = fault_stops total (side Directive before) BadByte at (35 ∷ bs) a e (bad_byte (record { no_blank = refl; no_feed = refl; no_join = no_join_at 35 bs (λ k. omega arith); no_hash = λ f g. cc; no_lexeme = no_lexeme_at_hash })) h

feed_from : (total : ℕ) (line : Line) (before : Before) (at b : ℕ) (bs : List ℕ) (a : Answer) → at + length (b ∷ bs) ≡ total → IsTrue (is_feed b) →
    Lexes total (side Fresh Free) bs a → Lexes total (side line before) (b ∷ bs) (after (line_end line at) a)
feed_from total line before at b bs a e f h = subst (λ m. Lexes total (side line before) (b ∷ bs) (after (line_end line m) a)) (place_at total at (b ∷ bs) e) (goes (feed f) h)

class_from : (total : ℕ) (line : Line) (before : Before) (at b : ℕ) (bs : List ℕ) (a : Answer) → at + length (b ∷ bs) ≡ total → (k : Class) → class_of b ≡ k → Tells b k →
    Next total (begin_class line before at b k) bs a → Lexes total (side line before) (b ∷ bs) (after (begin_class line before at b k).whole a)
class_from total line before at b bs a e Feed c t h = feed_from total line before at b bs a e (eq-eqb b 10 t) h
class_from total line before at b bs a e Blank c t h = goes (blank t) h
class_from total line before at b bs a e BackslashByte c t h = subst (λ z. Lexes total (side line before) (z ∷ bs) a) (sym t) h
class_from total line before at b bs a e Letter c t h = h
class_from total line before at b bs a e Digit c t h = h
class_from total line before at b bs a e HashByte c t h =
    subst (λ z. Lexes total (side line before) (z ∷ bs) (after (Machine.hash line at).whole a)) (sym t) (hash_from total line before at bs a e h)
class_from total line before at b bs a e (Punctuation p) c t h = subst (λ z. Lexes total (side line before) (z ++ bs) a) t h
class_from total line before at b bs a e Other c t h =
    fault_stops total (side line before) BadByte at (b ∷ bs) a e (bad_byte (record { no_blank = t.no_blank; no_feed = t.no_feed; no_join = no_join_at b bs t.no_backslash; no_hash = λ f g. t.no_hash f; no_lexeme = λ w. none_other b w c })) h

pub begin_from : (total : ℕ) (line : Line) (before : Before) (at b : ℕ) (bs : List ℕ) (a : Answer) → at + length (b ∷ bs) ≡ total →
    Next total (begin line before at b) bs a → Lexes total (side line before) (b ∷ bs) (after (begin line before at b).whole a)
begin_from total line before at b bs a e h = class_from total line before at b bs a e (class_of b) refl (tells b) h

-- and what is kept of the state after it
open_word : (b : ℕ) → IsTrue (begins_word b) → IsOpenWord (b ∷ [])
open_word b e bs = ap (λ t. t && list_all goes_in_word bs) e

open_number : (b : ℕ) → IsTrue (is_ascii_digit b) → IsOpenNumber b (b ∷ [])
open_number b e bs = ap (λ t. t && go_on b bs) e

class_sound : (line : Line) (before : Before) (at b : ℕ) (k : Class) → Tells b k → SoundNext (begin_class line before at b k) (at + 1)
class_sound line before at b Feed t = tt
class_sound line before at b Blank t = tt
class_sound line before at b BackslashByte t = refl
class_sound line before at b Letter t = (refl, open_word b t)
class_sound line before at b Digit t = (refl, open_number b t)
class_sound Fresh before at b HashByte t = tt
class_sound Begun before at b HashByte t = tt
class_sound Directive before at b HashByte t = tt
class_sound line before at b (Punctuation p) t = ap (λ z. at + length z) t
class_sound line before at b Other t = tt

pub begin_sound : (line : Line) (before : Before) (at b : ℕ) → SoundNext (begin line before at b) (at + 1)
begin_sound line before at b = class_sound line before at b (class_of b) (tells b)
