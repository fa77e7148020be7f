-- The tokens that marks are cut into.
use Rattle.std.proofs.Common.{◌≡◌, ◌≢◌, ℕ, ◌-◌, ◌^◌, ◌<◌, Bool, true, false, List, [], ◌∷◌, ◌++◌, length, refl, sym, ap, ◌∙◌, subst, arith, Some, None}
use Rattle.std.proofs.lemmas.Bool.{and_parts, both_ways}
use Rattle.std.specs.Prelude.{IsTrue, IsFalse, ◌==◌, ◌&&◌, codes, decimal}
use Rattle.std.specs.Char.{is_ascii_digit}
use Rattle.std.specs.List.{list_all}
use Rattle.c_tree.specs.declared.tree.Ty.{Ty}
use Rattle.c_tree.specs.declared.tree.Ty.TheVariants.{Int, Long}
use Rattle.c_tree.specs.Constants.{IsHeld}
use Rattle.c_lexer.specs.declared.context.Before.{Before}
use Rattle.c_lexer.specs.declared.context.Before.TheVariants.{Free, Solid}
use Rattle.c_lexer.specs.declared.token.Token.{Token}
use Rattle.c_lexer.specs.declared.token.TokenKind.{TokenKind}
use Rattle.c_lexer.specs.declared.token.TokenKind.TheVariants.{Word, Number, Punct as Punctuator, Hash, LineEnd, End}
use Rattle.c_lexer.specs.declared.token.Punct.{Punct}
use Rattle.c_lexer.specs.Bytes.{begins_word, goes_in_word}
use Rattle.c_lexer.specs.Comments.{begins_comment}
use Rattle.c_lexer.specs.Lexemes.{is_word, spelling, IsLongest, Spells}
use Rattle.c_lexer.specs.Cut.{side, token, after_kind, place, Lexes, ends, goes, blank, feed as feeds, hash as hashes, lexeme, tokens, Answer}
use Rattle.c_lexer.proofs.Longest.{EndsWord, EndsPunct, word_longest, number_longest, punct_longest, punct_no_comment, apart_no_comment, whole_number, IsOpenNumber}
use Rattle.c_lexer.proofs.Shapes.{shape}
use Rattle.c_printer.specs.Layout.{Mark, name, keyword, static, number, punct, hash, line_end, space, feed, mark_text, keyword_spelling, suffix}
use Rattle.c_printer.proofs.Marks.{bytes, At, fresh, within, line_of, after_token, after_mark, Stops, Stand}
use Rattle.c_printer.proofs.Names.{name_is_word}
use Rattle.c_printer.proofs.Words.{is_int, opened_word, keyword_is_word, number_open, stops_number, decimal_parts, number_is_constant}

-- what a mark is to the lexer, in a text of so many bytes of which those of the marks are left
abbrev pub tokens_at : ℕ → List Mark → List Token
tokens_at total [] = token End total total ∷ []
tokens_at total (space ∷ ms) = tokens_at total ms
tokens_at total (feed ∷ ms) = tokens_at total ms
tokens_at total (line_end ∷ ms) = token LineEnd (place total (bytes (line_end ∷ ms))) (place total (bytes (line_end ∷ ms))) ∷ tokens_at total ms
tokens_at total (hash ∷ ms) = token Hash (place total (bytes (hash ∷ ms))) (place total (bytes ms)) ∷ tokens_at total ms
tokens_at total (name x ∷ ms) = token (Word x) (place total (bytes (name x ∷ ms))) (place total (bytes ms)) ∷ tokens_at total ms
tokens_at total (keyword w ∷ ms) = token (Word (keyword_spelling w)) (place total (bytes (keyword w ∷ ms))) (place total (bytes ms)) ∷ tokens_at total ms
tokens_at total (static ∷ ms) = token (Word (codes "static")) (place total (bytes (static ∷ ms))) (place total (bytes ms)) ∷ tokens_at total ms
tokens_at total (number v t ∷ ms) = token (Number v t (is_int t && (v == 0))) (place total (bytes (number v t ∷ ms))) (place total (bytes ms)) ∷ tokens_at total ms
tokens_at total (punct p ∷ ms) = token (Punctuator p) (place total (bytes (punct p ∷ ms))) (place total (bytes ms)) ∷ tokens_at total ms

module _ (total : ℕ) where
  -- one token and the rest
  one : (s : At) (before : Before) (kind : TokenKind) (w bs : List ℕ) (ts : List Token) → IsFalse (begins_comment (w ++ bs)) → IsLongest w (w ++ bs) bs → Spells kind w
      → Lexes total (side (line_of (after_token s)) (after_kind kind)) bs (tokens ts)
      → Lexes total (side (line_of s) before) (w ++ bs) (tokens (token kind (place total (w ++ bs)) (place total bs) ∷ ts))
  one fresh before kind w bs ts n l k rest = goes (lexeme n l k) rest
  one (within true) before kind w bs ts n l k rest = goes (lexeme n l k) rest
  one (within false) before kind w bs ts n l k rest = goes (lexeme n l k) rest

  no_slash_first : (P : ℕ → Bool) (c : ℕ) → IsTrue (P c) → IsFalse (P 47) → c ≢ 47
  no_slash_first P c h n e = both_ways _ n (ap P (sym e) ∙ h)

  word_no_comment : (x bs : List ℕ) → IsTrue (is_word x) → IsFalse (begins_comment (x ++ bs))
  word_no_comment [] bs h = absurd (both_ways _ refl h)
  word_no_comment (c ∷ u) bs h = apart_no_comment c (u ++ bs) (no_slash_first begins_word c (and_parts (begins_word c) (list_all goes_in_word u) h).0 refl)

  a_word : (s : At) (before : Before) (x bs : List ℕ) (ts : List Token) → IsTrue (is_word x) → EndsWord bs
      → Lexes total (side (line_of (after_token s)) Solid) bs (tokens ts)
      → Lexes total (side (line_of s) before) (x ++ bs) (tokens (token (Word x) (place total (x ++ bs)) (place total bs) ∷ ts))
  a_word s before x bs ts h e rest = one s before (Word x) x bs ts (word_no_comment x bs h) (word_longest x bs (opened_word x h) e) (h, refl) rest

  held_is_small : (v : ℕ) (t : Ty) → IsHeld t v → v < 2 ^ 64
  held_is_small v Int h = omega arith
  held_is_small v Long h = omega arith

  a_number : (s : At) (before : Before) (v : ℕ) (t : Ty) (bs : List ℕ) (ts : List Token) → IsHeld t v → Stops bs
      → Lexes total (side (line_of (after_token s)) Solid) bs (tokens ts)
      → Lexes total (side (line_of s) before) ((decimal v ++ suffix t) ++ bs) (tokens (token (Number v t (is_int t && (v == 0))) (place total ((decimal v ++ suffix t) ++ bs)) (place total bs) ∷ ts))
  a_number s before v t bs ts h stop rest =
      let r = decimal_parts v (held_is_small v t h) in
      let o = number_open r.0 r.1 t r.3 r.4 in
      let e : decimal v ++ suffix t ≡ (r.0 ∷ r.1) ++ suffix t = ap (λ z. z ++ suffix t) r.2 in
      let P : List ℕ → Type 0 = IsOpenNumber o.0 in
      let opened : IsOpenNumber o.0 (decimal v ++ suffix t) = subst P (sym e) o.1 in
      let none : IsFalse (begins_comment ((decimal v ++ suffix t) ++ bs)) = ap (λ z. begins_comment (z ++ bs)) e ∙ apart_no_comment r.0 ((r.1 ++ suffix t) ++ bs) (no_slash_first is_ascii_digit r.0 r.3 refl) in
      one s before (Number v t (is_int t && (v == 0))) (decimal v ++ suffix t) bs ts none (number_longest o.0 (decimal v ++ suffix t) bs opened (stops_number o.0 bs stop)) (whole_number o.0 (decimal v ++ suffix t) opened, number_is_constant v t h) rest

  a_punct : (s : At) (before : Before) (p : Punct) (bs : List ℕ) (ts : List Token) → EndsPunct p bs
      → Lexes total (side (line_of (after_token s)) (after_kind (Punctuator p))) bs (tokens ts)
      → Lexes total (side (line_of s) before) (spelling p ++ bs) (tokens (token (Punctuator p) (place total (spelling p ++ bs)) (place total bs) ∷ ts))
  a_punct s before p bs ts e rest = one s before (Punctuator p) (spelling p) bs ts (punct_no_comment p (spelling p) bs (shape p) e) (punct_longest p bs e) refl rest

  -- marks that stand are cut into their tokens
  pub cut : (s : At) (before : Before) (ms : List Mark) → Stand s ms → Lexes total (side (line_of s) before) (bytes ms) (tokens (tokens_at total ms))
  cut fresh before [] h = ends
  cut (within d) before [] h = absurd h
  cut s before (space ∷ ms) h = goes (blank refl) (cut s Free ms h.1)
  cut fresh before (feed ∷ ms) h = goes (feeds refl) (cut fresh Free ms h.1)
  cut (within false) before (feed ∷ ms) h = goes (feeds refl) (cut fresh Free ms h.1)
  cut (within true) before (feed ∷ ms) h = absurd h.0
  cut fresh before (line_end ∷ ms) h = absurd h.0
  cut (within false) before (line_end ∷ ms) h = absurd h.0
  cut (within true) before (line_end ∷ ms) h = goes (feeds refl) (cut fresh Free ms h.1)
  cut fresh before (hash ∷ ms) h = goes (hashes refl refl) (cut (within true) Solid ms h.1)
  cut (within d) before (hash ∷ ms) h = absurd h.0
  cut s before (name x ∷ ms) h = a_word s before x (bytes ms) (tokens_at total ms) (name_is_word x h.0.0) h.0.1 (cut (after_token s) Solid ms h.1)
  cut s before (keyword w ∷ ms) h = a_word s before (keyword_spelling w) (bytes ms) (tokens_at total ms) (keyword_is_word w h.0.0) h.0.1 (cut (after_token s) Solid ms h.1)
  cut s before (static ∷ ms) h = a_word s before (codes "static") (bytes ms) (tokens_at total ms) refl h.0 (cut (after_token s) Solid ms h.1)
  cut s before (number v t ∷ ms) h = a_number s before v t (bytes ms) (tokens_at total ms) h.0.0 h.0.1 (cut (after_token s) Solid ms h.1)
  cut s before (punct p ∷ ms) h = a_punct s before p (bytes ms) (tokens_at total ms) h.0 (cut (after_token s) (after_kind (Punctuator p)) ms h.1)
