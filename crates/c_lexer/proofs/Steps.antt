-- One step of the machine: what completes the state after a byte completes, with the byte before it, the state before it.
use Rattle.std.proofs.Common.{◌≡◌, ◌≢◌, ◌⊎◌, ℕ, ◌+◌, Bool, true, false, cond, ◌&&◌, ◌||◌, List, [], ◌∷◌, ◌++◌, length, Option, Some, None, refl, sym, ap, ◌∙◌, subst, subst₂, arith, inl, inr, append_assoc, length-append}
use Rattle.std.specs.Prelude.{IsTrue, IsFalse, ◌==◌}
use Rattle.std.proofs.lemmas.Bool.{cond_both, cond-false, eqb-true, eq-eqb, ne_eqb, cases_eq, or_left, or_right, or_from, and_parts, and_from, and_left, and_right, not_from_true, not_from_false, both_ways}
use Rattle.c_lexer.specs.declared.mode.Growth.{Growth}
use Rattle.c_lexer.specs.declared.mode.Growth.TheVariants.{Grows, Dots, OpensBlock, OpensLine, Ends}
use Rattle.c_lexer.specs.declared.mode.Mode.{Mode}
use Rattle.c_lexer.specs.declared.mode.Mode.TheVariants.{Between, Word as InWord, Number as InNumber, Punct as InPunct, TwoDots, Backslash, BackslashReturn, Joined, JoinedBackslash, JoinedReturn, JoinedSlash, Block, LineComment, Faulted}
use Rattle.c_lexer.specs.declared.mode.BlockStage.{BlockStage}
use Rattle.c_lexer.specs.declared.mode.BlockStage.TheVariants.{Inside as InsideBlock, Star as AtStar, StarBackslash, StarReturn}
use Rattle.c_lexer.specs.declared.mode.LineStage.{LineStage}
use Rattle.c_lexer.specs.declared.mode.LineStage.TheVariants.{Inside as InsideLine, Backslash as LineBackslash, Return as LineReturn}
use Rattle.c_lexer.specs.declared.context.Line.{Line}
use Rattle.c_lexer.specs.declared.context.Before.{Before}
use Rattle.c_lexer.specs.declared.context.Before.TheVariants.{Free, Solid, Slash as AfterSlash}
use Rattle.c_lexer.specs.declared.class.Class.{Class}
use Rattle.c_lexer.specs.declared.class.Class.TheVariants.{Backslash as BackslashByte, Punct as Punctuation}
use Rattle.c_lexer.specs.declared.token.TokenKind.{TokenKind}
use Rattle.c_lexer.specs.declared.token.TokenKind.TheVariants.{Word, Number, Punct as Punctuator}
use Rattle.c_lexer.specs.declared.token.Punct.{Punct}
use Rattle.c_lexer.specs.declared.token.Punct.TheVariants.{Dot, And, Star, Plus, Minus, Bang, Slash, Percent, ShiftLeft, ShiftRight, Less, Greater, Caret, Bar, Assign}
use Rattle.c_lexer.specs.declared.token.LexKind.TheVariants.{BadByte, OpenComment, BadNumber}
use Rattle.c_lexer.specs.Bytes.{is_blank, is_feed, goes_in_word, before_feed, before_return, NoJoin}
use Rattle.c_lexer.specs.Comments.{begins_comment, InBlock, slash, InLine, line_ends, block, line}
use Rattle.c_lexer.specs.Numbers.{goes_on, is_number, integer, are_digits, is_in_range, is_suffixed, without_suffix, radix_of, digits_of}
use Rattle.c_lexer.specs.Lexemes.{spelling, is_word, IsLexeme, IsLongest, Spells}
use Rattle.c_lexer.specs.Cut.{Side, side, with_token, after_kind, allowed, comment, Fault, bad_byte, open_comment, bad_number, Answer, after, Lexes, goes}
use Rattle.c_lexer.specs.Classes.{class_of, growth, with_equals}
use Rattle.c_lexer.specs.Machine.{begin, ends_token, ends_number, grows, two_dots, leaves_run, bad_backslash, ends_block, block_stage, ends_line, in_mode}
use Rattle.c_lexer.proofs.Seen.{letter_apart, digit_bounds}
use Rattle.c_lexer.proofs.Shapes.{shape}
use Rattle.c_lexer.proofs.Longest.{punct_class, IsOpenWord, IsOpenNumber, whole_word, whole_number, word_longest, number_longest, punct_longest, dot_longest, apart_no_comment, punct_no_comment}
use Rattle.c_lexer.proofs.Meaning.{Run, Commented, Blocked, InStage, InLineStage, Completes, Next, Sound, token_goes, fault_stops, run_goes, run_over, run_fails, run_again}
use Rattle.c_lexer.proofs.Begins.{no_join_at, begin_from}
use Rattle.c_lexer.proofs.Stages.{tested, no_join_backslash, no_join_return, block_from, block_to, line_from}

-- what a byte makes of the punctuator before it, in bytes
abbrev pub Fits : Punct → ℕ → Growth → Type 0
Fits p b (Grows q) = spelling q ≡ spelling p ++ b ∷ []
Fits p b Dots = (p ≡ Dot) × (b ≡ 46)
Fits p b OpensBlock = (p ≡ Slash) × (b ≡ 42)
Fits p b OpensLine = (p ≡ Slash) × (b ≡ 47)
Fits p b Ends = Unit {0}

equals_fits : (p q : Punct) (b : ℕ) → (b ≡ 61 → spelling q ≡ spelling p ++ b ∷ []) → Fits p b (with_equals b q)
equals_fits p q b h = tested (Fits p b) b 61 (Grows q) Ends h (λ n. tt)

pub fits : (p : Punct) (b : ℕ) → Fits p b (growth p b)
fits Dot b = tested (Fits Dot b) b 46 Dots Ends (λ e. (refl, e)) (λ n. tt)
fits And b = tested (Fits And b) b 38 _ _ (λ e. ap (λ z. 38 ∷ z ∷ []) (sym e)) (λ n. equals_fits And _ b (λ e. ap (λ z. 38 ∷ z ∷ []) (sym e)))
fits Star b = equals_fits Star _ b (λ e. ap (λ z. 42 ∷ z ∷ []) (sym e))
fits Plus b = tested (Fits Plus b) b 43 _ _ (λ e. ap (λ z. 43 ∷ z ∷ []) (sym e)) (λ n. equals_fits Plus _ b (λ e. ap (λ z. 43 ∷ z ∷ []) (sym e)))
fits Minus b =
    tested (Fits Minus b) b 62 _ _ (λ e. ap (λ z. 45 ∷ z ∷ []) (sym e)) (λ n.
    tested (Fits Minus b) b 45 _ _ (λ e. ap (λ z. 45 ∷ z ∷ []) (sym e)) (λ m. equals_fits Minus _ b (λ e. ap (λ z. 45 ∷ z ∷ []) (sym e))))
fits Bang b = equals_fits Bang _ b (λ e. ap (λ z. 33 ∷ z ∷ []) (sym e))
fits Slash b =
    tested (Fits Slash b) b 42 _ _ (λ e. (refl, e)) (λ n.
    tested (Fits Slash b) b 47 _ _ (λ e. (refl, e)) (λ m. equals_fits Slash _ b (λ e. ap (λ z. 47 ∷ z ∷ []) (sym e))))
fits Percent b = equals_fits Percent _ b (λ e. ap (λ z. 37 ∷ z ∷ []) (sym e))
fits ShiftLeft b = equals_fits ShiftLeft _ b (λ e. ap (λ z. 60 ∷ 60 ∷ z ∷ []) (sym e))
fits ShiftRight b = equals_fits ShiftRight _ b (λ e. ap (λ z. 62 ∷ 62 ∷ z ∷ []) (sym e))
fits Less b = tested (Fits Less b) b 60 _ _ (λ e. ap (λ z. 60 ∷ z ∷ []) (sym e)) (λ n. equals_fits Less _ b (λ e. ap (λ z. 60 ∷ z ∷ []) (sym e)))
fits Greater b = tested (Fits Greater b) b 62 _ _ (λ e. ap (λ z. 62 ∷ z ∷ []) (sym e)) (λ n. equals_fits Greater _ b (λ e. ap (λ z. 62 ∷ z ∷ []) (sym e)))
fits Caret b = equals_fits Caret _ b (λ e. ap (λ z. 94 ∷ z ∷ []) (sym e))
fits Bar b = tested (Fits Bar b) b 124 _ _ (λ e. ap (λ z. 124 ∷ z ∷ []) (sym e)) (λ n. equals_fits Bar _ b (λ e. ap (λ z. 124 ∷ z ∷ []) (sym e)))
fits Assign b = equals_fits Assign _ b (λ e. ap (λ z. 61 ∷ z ∷ []) (sym e))
fits p b = tt

-- words and numbers begin no comment
pub word_no_comment : (w cs : List ℕ) → IsTrue (is_word w) → IsFalse (begins_comment (w ++ cs))
word_no_comment [] cs h = absurd (both_ways _ refl h)
word_no_comment (c ∷ w) cs h = let k = letter_apart c (and_parts _ _ h).0 in apart_no_comment c (w ++ cs) (λ e. omega arith)

pub number_no_comment : (w cs : List ℕ) → IsTrue (is_number w) → IsFalse (begins_comment (w ++ cs))
number_no_comment [] cs h = absurd (both_ways _ refl h)
number_no_comment (c ∷ w) cs h = let k = digit_bounds c (and_parts _ _ h).0 in apart_no_comment c (w ++ cs) (λ e. omega arith)

-- an integer constant is spelled as one
integer_spells : (t : Bool) (v : ℕ) (ty : _) (z : Bool) (w : List ℕ) (kind : TokenKind) → IsTrue (is_number w) → integer w ≡ cond t (Some (Number v ty z)) None → integer w ≡ Some kind → Spells kind w
integer_spells true v ty z w kind n e f =
    let k : kind ≡ Number v ty z = cc in subst (λ x. Spells x w) (sym k) (n, e)
integer_spells false v ty z w kind n e f = absurd cc

pub number_spells : (w : List ℕ) (kind : TokenKind) → IsTrue (is_number w) → integer w ≡ Some kind → Spells kind w
number_spells w kind n e =
    integer_spells (are_digits (radix_of (without_suffix w)) (digits_of (without_suffix w)) && is_in_range (is_suffixed w) (radix_of (without_suffix w)) _) _ _ _ w kind n refl e

free_solid : Free ≡ Solid → ⊥
free_solid e = cc

slash_solid : AfterSlash ≡ Solid → ⊥
slash_solid e = cc

module _ (total : ℕ) where
  -- a token ends before a byte
  pub ends_from : (line_ : Line) (before : Before) (kind : TokenKind) (start at b : ℕ) (w bs : List ℕ) (a : Answer) →
      start + length w ≡ at → at + length (b ∷ bs) ≡ total → IsFalse (begins_comment (w ++ b ∷ bs)) → IsLongest w (w ++ b ∷ bs) (b ∷ bs) → Spells kind w →
      Next total (ends_token line_ kind start at b) bs a → Lexes total (side line_ before) (w ++ b ∷ bs) (after (ends_token line_ kind start at b).whole a)
  ends_from line_ before kind start at b w bs a e f n l k h =
      token_goes total line_ before kind start at w (w ++ b ∷ bs) (b ∷ bs) (after (begin (with_token line_) (after_kind kind) at b).whole a)
      (omega (arith, length-append w (b ∷ bs))) f n l k (begin_from total (with_token line_) (after_kind kind) at b bs a f h)

  word_from : (line_ : Line) (before : Before) (start : ℕ) (text : List ℕ) (at b : ℕ) (bs : List ℕ) (a : Answer) → (start + length text ≡ at) × IsOpenWord text → at + length (b ∷ bs) ≡ total →
      Next total (in_mode line_ before (InWord start) text at b) bs a → Lexes total (side line_ before) (text ++ b ∷ bs) (after (in_mode line_ before (InWord start) text at b).whole a)
  word_from line_ before start text at b bs a s e =
      cond_both (goes_in_word b) _ _ (λ m. Next total m bs a → Lexes total (side line_ before) (text ++ b ∷ bs) (after m.whole a))
      (λ g h. subst (λ z. Lexes total (side line_ before) z a) (append_assoc text (b ∷ []) bs) h)
      (λ g h. let w = whole_word text s.1 in ends_from line_ before (Word text) start at b text bs a s.0 e (word_no_comment text (b ∷ bs) w) (word_longest text (b ∷ bs) s.1 g) (w, refl) h)

  constant_from : (line_ : Line) (before : Before) (start : ℕ) (text : List ℕ) (at b : ℕ) (bs : List ℕ) (a : Answer) → start + length text ≡ at → at + length (b ∷ bs) ≡ total →
      IsTrue (is_number text) → IsLongest text (text ++ b ∷ bs) (b ∷ bs) → (o : Option TokenKind) → integer text ≡ o →
      Next total (ends_number line_ o start at b) bs a → Lexes total (side line_ before) (text ++ b ∷ bs) (after (ends_number line_ o start at b).whole a)
  constant_from line_ before start text at b bs a s e n l (Some kind) i h = ends_from line_ before kind start at b text bs a s e (number_no_comment text (b ∷ bs) n) l (number_spells text kind n i) h
  constant_from line_ before start text at b bs a s e n l None i h = fault_stops total (side line_ before) BadNumber start (text ++ b ∷ bs) a (omega (arith, length-append text (b ∷ bs))) (bad_number l n i) h

  number_from : (line_ : Line) (before : Before) (start last : ℕ) (text : List ℕ) (at b : ℕ) (bs : List ℕ) (a : Answer) → (start + length text ≡ at) × IsOpenNumber last text → at + length (b ∷ bs) ≡ total →
      Next total (in_mode line_ before (InNumber start last) text at b) bs a → Lexes total (side line_ before) (text ++ b ∷ bs) (after (in_mode line_ before (InNumber start last) text at b).whole a)
  number_from line_ before start last text at b bs a s e =
      cond_both (goes_on last b) _ _ (λ m. Next total m bs a → Lexes total (side line_ before) (text ++ b ∷ bs) (after m.whole a))
      (λ g h. subst (λ z. Lexes total (side line_ before) z a) (append_assoc text (b ∷ []) bs) h)
      (λ g h. constant_from line_ before start text at b bs a s.0 e (whole_number last text s.1) (number_longest last text (b ∷ bs) s.1 g) (integer text) refl h)

  -- a comment begins
  pub block_begins : (line_ : Line) (before : Before) (start : ℕ) (bs : List ℕ) (a : Answer) → start + length (47 ∷ 42 ∷ bs) ≡ total → Blocked total (side line_ Free) InBlock start bs a → Lexes total (side line_ before) (47 ∷ 42 ∷ bs) a
  block_begins line_ before start bs a e (inl h) = goes (comment (block refl refl h.comment)) h.then
  block_begins line_ before start bs a e (inr h) = fault_stops total (side line_ before) OpenComment start (47 ∷ 42 ∷ bs) a e (open_comment refl refl h.0) h.1

  pub line_begins : (line_ : Line) (before : Before) (bs : List ℕ) (a : Answer) → Commented total (side line_ Free) InLine bs a → Lexes total (side line_ before) (47 ∷ 47 ∷ bs) a
  line_begins line_ before bs a h = goes (comment (line refl refl h.comment)) h.then

  grows_from : (line_ : Line) (before : Before) (p : Punct) (start at b : ℕ) (bs : List ℕ) (a : Answer) → start + length (spelling p) ≡ at → at + length (b ∷ bs) ≡ total → (g : Growth) → growth p b ≡ g → Fits p b g →
      Next total (grows line_ before p start at b g) bs a → Lexes total (side line_ before) (spelling p ++ b ∷ bs) (after (grows line_ before p start at b g).whole a)
  grows_from line_ before p start at b bs a s e (Grows q) g f h = subst (λ z. Lexes total (side line_ before) z a) (ap (λ z. z ++ bs) f ∙ append_assoc (spelling p) (b ∷ []) bs) h
  grows_from line_ before p start at b bs a s e Dots g f h = subst₂ (λ q c. Lexes total (side line_ before) (spelling q ++ c ∷ bs) a) (sym f.0) (sym f.1) h
  grows_from line_ before p start at b bs a s e OpensBlock g f h =
      let one : start + 1 ≡ at = subst (λ q. start + length (spelling q) ≡ at) f.0 s in
      subst₂ (λ q c. Lexes total (side line_ before) (spelling q ++ c ∷ bs) a) (sym f.0) (sym f.1) (block_begins line_ before start bs a (omega arith) h)
  grows_from line_ before p start at b bs a s e OpensLine g f h =
      subst₂ (λ q c. Lexes total (side line_ before) (spelling q ++ c ∷ bs) a) (sym f.0) (sym f.1) (line_begins line_ before bs a h)
  grows_from line_ before p start at b bs a s e Ends g f h =
      ends_from line_ before (Punctuator p) start at b (spelling p) bs a s e (punct_no_comment p (spelling p) (b ∷ bs) (shape p) g) (punct_longest p (b ∷ bs) g) refl h

  -- two dots that are no part of an ellipsis
  dots_from : (line_ : Line) (before : Before) (start second at b : ℕ) (bs : List ℕ) (a : Answer) → (start + 1 ≡ second) × (second + 1 ≡ at) → at + length (b ∷ bs) ≡ total → b ≢ 46 →
      Next total (two_dots line_ start second at b) bs a → Lexes total (side line_ before) (46 ∷ 46 ∷ b ∷ bs) (after (two_dots line_ start second at b).whole a)
  dots_from line_ before start second at b bs a s e n h =
      token_goes total line_ before (Punctuator Dot) start second (46 ∷ []) (46 ∷ 46 ∷ b ∷ bs) (46 ∷ b ∷ bs)
      (after (ends_token (with_token line_) (Punctuator Dot) second at b).whole a) (omega arith) (omega arith) refl (dot_longest (b ∷ bs) n) refl
      (ends_from (with_token line_) Solid (Punctuator Dot) second at b (spelling Dot) bs a s.1 e (punct_no_comment Dot (spelling Dot) (b ∷ bs) (shape Dot) (ends n)) (punct_longest Dot (b ∷ bs) (ends n)) refl h)
    where
      ends : b ≢ 46 → growth Dot b ≡ Ends
      ends n = cond-false _ _ _ (ne_eqb b 46 n)

  two_dots_from : (line_ : Line) (before : Before) (start second : ℕ) (text : List ℕ) (at b : ℕ) (bs : List ℕ) (a : Answer) → (start + 1 ≡ second) × (second + 1 ≡ at) → at + length (b ∷ bs) ≡ total →
      Next total (in_mode line_ before (TwoDots start second) text at b) bs a → Lexes total (side line_ before) (46 ∷ 46 ∷ b ∷ bs) (after (in_mode line_ before (TwoDots start second) text at b).whole a)
  two_dots_from line_ before start second text at b bs a s e =
      tested (λ m. Next total m bs a → Lexes total (side line_ before) (46 ∷ 46 ∷ b ∷ bs) (after m.whole a)) b 46 _ _
      (λ g h. subst (λ z. Lexes total (side line_ before) (46 ∷ 46 ∷ z ∷ bs) a) (sym g) h)
      (λ n h. dots_from line_ before start second at b bs a s e n h)

  -- a backslash that begins no join
  pub bad_backslash_at : (s : Side) (bs : List ℕ) → NoJoin (92 ∷ bs) → Fault s (92 ∷ bs) BadByte
  bad_backslash_at s bs n = bad_byte (record { no_blank = refl; no_feed = refl; no_join = n; no_hash = λ e f. omega arith; no_lexeme = none })
    where
      no_punct : (k : Class) (q : Punct) → k ≡ BackslashByte → k ≡ Punctuation q → ⊥
      no_punct k q e f = cc

      none : (w : List ℕ) → IsLexeme (92 ∷ w) → ⊥
      none w (inl h) = both_ways _ refl h
      none w (inr (inl h)) = both_ways _ refl h
      none w (inr (inr h)) = let k = punct_class h.0 92 w h.1 in no_punct (class_of 92) k.0 refl k.1

  backslash_from : (line_ : Line) (before : Before) (first : ℕ) (text : List ℕ) (at b : ℕ) (bs : List ℕ) (a : Answer) → first + 1 ≡ at → at + length (b ∷ bs) ≡ total →
      Next total (in_mode line_ before (Backslash first) text at b) bs a → Lexes total (side line_ before) (92 ∷ b ∷ bs) (after (in_mode line_ before (Backslash first) text at b).whole a)
  backslash_from line_ before first text at b bs a s e =
      tested (λ m. Next total m bs a → Lexes total (side line_ before) (92 ∷ b ∷ bs) (after m.whole a)) b 10 _ _
      (λ g h. run_goes total (side line_ before) first (92 ∷ b ∷ bs) bs a (omega arith) (before_feed refl g) h)
      (λ n. tested (λ m. Next total m bs a → Lexes total (side line_ before) (92 ∷ b ∷ bs) (after m.whole a)) b 13 _ _
      (λ g h. subst (λ z. Lexes total (side line_ before) (92 ∷ z ∷ bs) a) (sym g) h)
      (λ k h. fault_stops total (side line_ before) BadByte first (92 ∷ b ∷ bs) a (omega arith) (bad_backslash_at (side line_ before) (b ∷ bs) (no_join_backslash b bs n k)) h))

  backslash_return_from : (line_ : Line) (before : Before) (first : ℕ) (text : List ℕ) (at b : ℕ) (bs : List ℕ) (a : Answer) → first + 2 ≡ at → at + length (b ∷ bs) ≡ total →
      Next total (in_mode line_ before (BackslashReturn first) text at b) bs a → Lexes total (side line_ before) (92 ∷ 13 ∷ b ∷ bs) (after (in_mode line_ before (BackslashReturn first) text at b).whole a)
  backslash_return_from line_ before first text at b bs a s e =
      tested (λ m. Next total m bs a → Lexes total (side line_ before) (92 ∷ 13 ∷ b ∷ bs) (after m.whole a)) b 10 _ _
      (λ g h. run_goes total (side line_ before) first (92 ∷ 13 ∷ b ∷ bs) bs a (omega arith) (before_return refl refl g) h)
      (λ n h. fault_stops total (side line_ before) BadByte first (92 ∷ 13 ∷ b ∷ bs) a (omega arith) (bad_backslash_at (side line_ before) (13 ∷ b ∷ bs) (no_join_return b bs n)) h)

  -- after a run of joins
  begins_after : (line_ : Line) (before : Before) (first at b : ℕ) (bs : List ℕ) (a : Answer) → at + length (b ∷ bs) ≡ total → b ≢ 92 → IsTrue (allowed before (b ∷ bs)) →
      Next total (begin line_ before at b) bs a → Run total (side line_ before) first (b ∷ bs) (after (begin line_ before at b).whole a)
  begins_after line_ before first at b bs a e n l h = run_over total (side line_ before) first (b ∷ bs) _ (no_join_at b bs n) l (begin_from total line_ before at b bs a e h)

  -- neither white space nor the end of a line begins a comment
  clear_byte : (b : ℕ) → IsTrue (is_blank b || is_feed b) → (b ≢ 42) × (b ≢ 47)
  clear_byte b e = (λ f. both_ways _ (ap (λ z. is_blank z || is_feed z) f) e, λ f. both_ways _ (ap (λ z. is_blank z || is_feed z) f) e)

  slash_allowed : (b : ℕ) (bs : List ℕ) → IsTrue (is_blank b || is_feed b) → IsTrue (allowed AfterSlash (b ∷ bs))
  slash_allowed b bs e = let k = clear_byte b e in and_from _ _ (or_left _ _ e) (not_from_false _ (or_from (b == 42) (b == 47) (ne_eqb b 42 k.0) (ne_eqb b 47 k.1)))

  slash_split : (b : ℕ) (bs : List ℕ) → IsFalse (is_blank b || is_feed b) → IsFalse (allowed AfterSlash (b ∷ bs))
  slash_split b bs e = by (cases_eq b 47)
    where
      by : ((b ≡ 47) ⊎ (b ≡ 47 → ⊥)) → IsFalse (allowed AfterSlash (b ∷ bs))
      by (inl f) = and_right _ _ (not_from_true _ (or_right (b == 42) (b == 47) (eq-eqb b 47 f)))
      by (inr n) = and_left _ _ (or_from _ _ e (apart_no_comment b bs n))

  leaves_from : (line_ : Line) (before : Before) (first at b : ℕ) (bs : List ℕ) (a : Answer) → at + length (b ∷ bs) ≡ total → b ≢ 92 →
      Next total (leaves_run line_ before first at b) bs a → Run total (side line_ before) first (b ∷ bs) (after (leaves_run line_ before first at b).whole a)
  leaves_from line_ Free first at b bs a e n = λ h. begins_after line_ Free first at b bs a e n refl h
  leaves_from line_ Solid first at b bs a e n =
      cond_both (is_blank b || is_feed b) _ _ (λ m. Next total m bs a → Run total (side line_ Solid) first (b ∷ bs) (after m.whole a))
      (λ g h. begins_after line_ Solid first at b bs a e n (or_left _ _ g) h)
      (λ g. tested (λ m. Next total m bs a → Run total (side line_ Solid) first (b ∷ bs) (after m.whole a)) b 47 _ _
      (λ i h. subst (λ z. Run total (side line_ Solid) first (z ∷ bs) a) (sym i) h)
      (λ k h. run_fails total (side line_ Solid) first (b ∷ bs) a (no_join_at b bs n) (or_from _ _ g (apart_no_comment b bs k)) h))
  leaves_from line_ AfterSlash first at b bs a e n =
      cond_both (is_blank b || is_feed b) _ _ (λ m. Next total m bs a → Run total (side line_ AfterSlash) first (b ∷ bs) (after m.whole a))
      (λ g h. begins_after line_ AfterSlash first at b bs a e n (slash_allowed b bs g) h)
      (λ g h. run_fails total (side line_ AfterSlash) first (b ∷ bs) a (no_join_at b bs n) (slash_split b bs g) h)

  joined_from : (line_ : Line) (before : Before) (first : ℕ) (text : List ℕ) (at b : ℕ) (bs : List ℕ) (a : Answer) → at + length (b ∷ bs) ≡ total →
      Next total (in_mode line_ before (Joined first) text at b) bs a → Run total (side line_ before) first (b ∷ bs) (after (in_mode line_ before (Joined first) text at b).whole a)
  joined_from line_ before first text at b bs a e =
      tested (λ m. Next total m bs a → Run total (side line_ before) first (b ∷ bs) (after m.whole a)) b 92 _ _
      (λ g h. subst (λ z. Run total (side line_ before) first (z ∷ bs) a) (sym g) h)
      (λ n h. leaves_from line_ before first at b bs a e n h)

  -- a run ends before a backslash that begins no join
  run_stops : (line_ : Line) (before : Before) (first last : ℕ) (bs : List ℕ) (a : Answer) → last + length (92 ∷ bs) ≡ total → NoJoin (92 ∷ bs) →
      Next total (bad_backslash before first last) bs a → Run total (side line_ before) first (92 ∷ bs) (after (bad_backslash before first last).whole a)
  run_stops line_ Free first last bs a e n h = run_over total (side line_ Free) first (92 ∷ bs) a n refl (fault_stops total (side line_ Free) BadByte last (92 ∷ bs) a e (bad_backslash_at (side line_ Free) bs n) h)
  run_stops line_ Solid first last bs a e n h = run_fails total (side line_ Solid) first (92 ∷ bs) a n (apart_no_comment 92 bs (λ k. omega arith)) h
  run_stops line_ AfterSlash first last bs a e n h = run_fails total (side line_ AfterSlash) first (92 ∷ bs) a n (and_left _ _ (apart_no_comment 92 bs (λ k. omega arith))) h

  run_stops_at : (line_ : Line) (before : Before) (first last : ℕ) (bs ds : List ℕ) (a : Answer) → last + length (92 ∷ ds) ≡ total → NoJoin (92 ∷ ds) →
      Next total (bad_backslash before first last) bs a → Run total (side line_ before) first (92 ∷ ds) (after (bad_backslash before first last).whole a)
  run_stops_at line_ Free first last bs ds a e n h = run_stops line_ Free first last ds a e n h
  run_stops_at line_ Solid first last bs ds a e n h = run_stops line_ Solid first last ds a e n h
  run_stops_at line_ AfterSlash first last bs ds a e n h = run_stops line_ AfterSlash first last ds a e n h

  joined_backslash_from : (line_ : Line) (before : Before) (first last : ℕ) (text : List ℕ) (at b : ℕ) (bs : List ℕ) (a : Answer) → last + 1 ≡ at → at + length (b ∷ bs) ≡ total →
      Next total (in_mode line_ before (JoinedBackslash first last) text at b) bs a → Run total (side line_ before) first (92 ∷ b ∷ bs) (after (in_mode line_ before (JoinedBackslash first last) text at b).whole a)
  joined_backslash_from line_ before first last text at b bs a s e =
      tested (λ m. Next total m bs a → Run total (side line_ before) first (92 ∷ b ∷ bs) (after m.whole a)) b 10 _ _
      (λ g h. run_again total (side line_ before) first (92 ∷ b ∷ bs) bs a (before_feed refl g) h)
      (λ n. tested (λ m. Next total m bs a → Run total (side line_ before) first (92 ∷ b ∷ bs) (after m.whole a)) b 13 _ _
      (λ g h. subst (λ z. Run total (side line_ before) first (92 ∷ z ∷ bs) a) (sym g) h)
      (λ k h. run_stops_at line_ before first last bs (b ∷ bs) a (omega arith) (no_join_backslash b bs n k) h))

  joined_return_from : (line_ : Line) (before : Before) (first last : ℕ) (text : List ℕ) (at b : ℕ) (bs : List ℕ) (a : Answer) → last + 2 ≡ at → at + length (b ∷ bs) ≡ total →
      Next total (in_mode line_ before (JoinedReturn first last) text at b) bs a → Run total (side line_ before) first (92 ∷ 13 ∷ b ∷ bs) (after (in_mode line_ before (JoinedReturn first last) text at b).whole a)
  joined_return_from line_ before first last text at b bs a s e =
      tested (λ m. Next total m bs a → Run total (side line_ before) first (92 ∷ 13 ∷ b ∷ bs) (after m.whole a)) b 10 _ _
      (λ g h. run_again total (side line_ before) first (92 ∷ 13 ∷ b ∷ bs) bs a (before_return refl refl g) h)
      (λ n h. run_stops_at line_ before first last bs (13 ∷ b ∷ bs) a (omega arith) (no_join_return b bs n) h)

  joined_slash_from : (line_ : Line) (first slash_ : ℕ) (text : List ℕ) (at b : ℕ) (bs : List ℕ) (a : Answer) → slash_ + 1 ≡ at → at + length (b ∷ bs) ≡ total →
      Next total (in_mode line_ Solid (JoinedSlash first slash_) text at b) bs a → Run total (side line_ Solid) first (47 ∷ b ∷ bs) (after (in_mode line_ Solid (JoinedSlash first slash_) text at b).whole a)
  joined_slash_from line_ first slash_ text at b bs a s e =
      tested (λ m. Next total m bs a → Run total (side line_ Solid) first (47 ∷ b ∷ bs) (after m.whole a)) b 42 _ _
      (λ g h. run_over total (side line_ Solid) first (47 ∷ b ∷ bs) a (no_join_at 47 (b ∷ bs) (λ k. omega arith)) (or_left (b == 42) (b == 47) (eq-eqb b 42 g))
      (subst (λ z. Lexes total (side line_ Solid) (47 ∷ z ∷ bs) a) (sym g) (block_begins line_ Solid slash_ bs a (omega arith) h)))
      (λ n. tested (λ m. Next total m bs a → Run total (side line_ Solid) first (47 ∷ b ∷ bs) (after m.whole a)) b 47 _ _
      (λ g h. run_over total (side line_ Solid) first (47 ∷ b ∷ bs) a (no_join_at 47 (b ∷ bs) (λ k. omega arith)) (or_right (b == 42) (b == 47) (eq-eqb b 47 g))
      (subst (λ z. Lexes total (side line_ Solid) (47 ∷ z ∷ bs) a) (sym g) (line_begins line_ Solid bs a h)))
      (λ k h. run_fails total (side line_ Solid) first (47 ∷ b ∷ bs) a (no_join_at 47 (b ∷ bs) (λ l. omega arith)) (or_from (b == 42) (b == 47) (ne_eqb b 42 n) (ne_eqb b 47 k)) h))

  block_ends : (line_ : Line) (start : ℕ) (stage : BlockStage) (b : ℕ) (bs : List ℕ) (a : Answer) → IsTrue (ends_block stage b) → Lexes total (side line_ Free) bs a → Blocked total (side line_ Free) (InStage stage) start (b ∷ bs) a
  block_ends line_ start InsideBlock b bs a e h = absurd (both_ways _ refl e)
  block_ends line_ start AtStar b bs a e h = inl (record { rest = bs; comment = slash (eqb-true b 47 e); then = h })
  block_ends line_ start StarBackslash b bs a e h = absurd (both_ways _ refl e)
  block_ends line_ start StarReturn b bs a e h = absurd (both_ways _ refl e)

  block_goes : (line_ : Line) (start : ℕ) (stage : BlockStage) (b : ℕ) (bs : List ℕ) (a : Answer) → IsFalse (ends_block stage b) → Blocked total (side line_ Free) (InStage (block_stage stage b)) start bs a → Blocked total (side line_ Free) (InStage stage) start (b ∷ bs) a
  block_goes line_ start stage b bs a e (inl h) = inl (record { rest = h.rest; comment = block_from stage b bs h.rest e h.comment; then = h.then })
  block_goes line_ start stage b bs a e (inr h) = inr (λ cs k. h.0 cs (block_to stage b bs cs e k), h.1)

  in_block_from : (line_ : Line) (before : Before) (start : ℕ) (stage : BlockStage) (text : List ℕ) (at b : ℕ) (bs : List ℕ) (a : Answer) →
      Next total (in_mode line_ before (Block start stage) text at b) bs a → Blocked total (side line_ Free) (InStage stage) start (b ∷ bs) (after (in_mode line_ before (Block start stage) text at b).whole a)
  in_block_from line_ before start stage text at b bs a =
      cond_both (ends_block stage b) _ _ (λ m. Next total m bs a → Blocked total (side line_ Free) (InStage stage) start (b ∷ bs) (after m.whole a))
      (λ e h. block_ends line_ start stage b bs a e h) (λ e h. block_goes line_ start stage b bs a e h)

  line_stops : (line_ : Line) (stage : LineStage) (at b : ℕ) (bs : List ℕ) (a : Answer) → at + length (b ∷ bs) ≡ total → IsTrue (ends_line stage b) →
      Next total (begin line_ Free at b) bs a → Commented total (side line_ Free) (InLineStage stage) (b ∷ bs) (after (begin line_ Free at b).whole a)
  line_stops line_ InsideLine at b bs a e f h = record { rest = b ∷ bs; comment = line_ends (eqb-true b 10 f); then = begin_from total line_ Free at b bs a e h }
  line_stops line_ LineBackslash at b bs a e f h = absurd (both_ways _ refl f)
  line_stops line_ LineReturn at b bs a e f h = absurd (both_ways _ refl f)

  in_line_from : (line_ : Line) (before : Before) (stage : LineStage) (text : List ℕ) (at b : ℕ) (bs : List ℕ) (a : Answer) → at + length (b ∷ bs) ≡ total →
      Next total (in_mode line_ before (LineComment stage) text at b) bs a → Commented total (side line_ Free) (InLineStage stage) (b ∷ bs) (after (in_mode line_ before (LineComment stage) text at b).whole a)
  in_line_from line_ before stage text at b bs a e =
      cond_both (ends_line stage b) _ _ (λ m. Next total m bs a → Commented total (side line_ Free) (InLineStage stage) (b ∷ bs) (after m.whole a))
      (λ f h. line_stops line_ stage at b bs a e f h)
      (λ f h. record { rest = h.rest; comment = line_from stage b bs h.rest f h.comment; then = h.then })

  pub step_from : (line_ : Line) (before : Before) (mode : Mode) (text : List ℕ) (at b : ℕ) (bs : List ℕ) (a : Answer) → Sound before mode text at → at + length (b ∷ bs) ≡ total →
      Next total (in_mode line_ before mode text at b) bs a → Completes total line_ before mode text (b ∷ bs) (after (in_mode line_ before mode text at b).whole a)
  step_from line_ before Between text at b bs a s e h = begin_from total line_ before at b bs a e h
  step_from line_ before (InWord start) text at b bs a s e h = word_from line_ before start text at b bs a s e h
  step_from line_ before (InNumber start last) text at b bs a s e h = number_from line_ before start last text at b bs a s e h
  step_from line_ before (InPunct start p) text at b bs a s e h = grows_from line_ before p start at b bs a s e (growth p b) refl (fits p b) h
  step_from line_ before (TwoDots start second) text at b bs a s e h = two_dots_from line_ before start second text at b bs a s e h
  step_from line_ before (Backslash first) text at b bs a s e h = backslash_from line_ before first text at b bs a s e h
  step_from line_ before (BackslashReturn first) text at b bs a s e h = backslash_return_from line_ before first text at b bs a s e h
  step_from line_ before (Joined first) text at b bs a s e h = joined_from line_ before first text at b bs a e h
  step_from line_ before (JoinedBackslash first last) text at b bs a s e h = joined_backslash_from line_ before first last text at b bs a s e h
  step_from line_ before (JoinedReturn first last) text at b bs a s e h = joined_return_from line_ before first last text at b bs a s e h
  step_from line_ Solid (JoinedSlash first slash_) text at b bs a s e h = joined_slash_from line_ first slash_ text at b bs a s.1 e h
  step_from line_ Free (JoinedSlash first slash_) text at b bs a s e h = absurd (free_solid s.0)
  step_from line_ AfterSlash (JoinedSlash first slash_) text at b bs a s e h = absurd (slash_solid s.0)
  step_from line_ before (Block start stage) text at b bs a s e h = in_block_from line_ before start stage text at b bs a h
  step_from line_ before (LineComment stage) text at b bs a s e h = in_line_from line_ before stage text at b bs a e h
  step_from line_ before (Faulted kind where_) text at b bs a s e h = h
