-- The end of the text: what completes each state with no byte left.
use Rattle.std.proofs.Common.{◌≡◌, ◌≢◌, ℕ, ◌+◌, List, [], ◌∷◌, ◌++◌, length, Option, Some, None, refl, ap, ◌∙◌, arith, inr}
use Rattle.std.specs.Prelude.{IsTrue, IsFalse}
use Rattle.std.proofs.lemmas.Bool.{and_left}
use Rattle.c_lexer.specs.declared.mode.Mode.{Mode}
use Rattle.c_lexer.specs.declared.mode.Mode.TheVariants.{Between, Word as InWord, Number as InNumber, Punct as InPunct, TwoDots, Backslash, BackslashReturn, Joined, JoinedBackslash, JoinedReturn, JoinedSlash, Block, LineComment, Faulted}
use Rattle.c_lexer.specs.declared.mode.BlockStage.{BlockStage}
use Rattle.c_lexer.specs.declared.mode.BlockStage.TheVariants.{Inside as InsideBlock, Star as AtStar, StarBackslash, StarReturn}
use Rattle.c_lexer.specs.declared.mode.LineStage.{LineStage}
use Rattle.c_lexer.specs.declared.mode.LineStage.TheVariants.{Inside as InsideLine, Backslash as LineBackslash, Return as LineReturn}
use Rattle.c_lexer.specs.declared.context.Line.{Line}
use Rattle.c_lexer.specs.declared.context.Before.{Before}
use Rattle.c_lexer.specs.declared.context.Before.TheVariants.{Free, Solid, Slash as AfterSlash}
use Rattle.c_lexer.specs.declared.token.TokenKind.{TokenKind}
use Rattle.c_lexer.specs.declared.token.TokenKind.TheVariants.{Word, Punct as Punctuator}
use Rattle.c_lexer.specs.declared.token.Punct.TheVariants.{Dot}
use Rattle.c_lexer.specs.declared.token.LexKind.TheVariants.{BadByte, BadNumber, SplitToken}
use Rattle.c_lexer.specs.Bytes.{before_feed, NoJoin}
use Rattle.c_lexer.specs.Comments.{InBlock, star, other, AfterStar, slash, join, goes_on, text_ends, any, begins_comment}
use Rattle.c_lexer.specs.Numbers.{is_number, integer}
use Rattle.c_lexer.specs.Lexemes.{spelling, IsLongest, Spells}
use Rattle.c_lexer.specs.Cut.{side, token, with_token, after_kind, bad_number, fault, after, Lexes, ends}
use Rattle.c_lexer.specs.Machine.{closing, closes_token, closes_number, closes_backslash, end_in_mode}
use Rattle.c_lexer.proofs.Shapes.{shape}
use Rattle.c_lexer.proofs.Longest.{append_none, whole_word, whole_number, word_longest, number_longest, punct_longest, dot_longest, punct_no_comment}
use Rattle.c_lexer.proofs.Meaning.{Run, InStage, InLineStage, Completes, Sound, token_goes, fault_stops, run_over, run_fails}
use Rattle.c_lexer.proofs.Begins.{no_join_at}
use Rattle.c_lexer.proofs.Steps.{word_no_comment, number_no_comment, number_spells, bad_backslash_at}

no_join_none : NoJoin []
no_join_none cs j = elim j [ ]

no_join_alone : NoJoin (92 ∷ [])
no_join_alone cs j = elim j [ ]

no_join_pair : NoJoin (92 ∷ 13 ∷ [])
no_join_pair cs (before_feed e f) = omega arith

closing_at : (total : ℕ) (line : Line) (before : Before) → Lexes total (side line before) [] (closing line total)
closing_at total line before = ends

token_ends : (total : ℕ) (line : Line) (before : Before) (kind : TokenKind) (start : ℕ) (w : List ℕ) → start + length w ≡ total →
    IsFalse (begins_comment (w ++ [])) → IsLongest w (w ++ []) [] → Spells kind w → Lexes total (side line before) (w ++ []) (closes_token line kind start total)
token_ends total line before kind start w e n l k =
    token_goes total line before kind start total w (w ++ []) [] (closing (with_token line) total) (ap (λ z. start + length z) (append_none w) ∙ e) (omega arith) n l k (closing_at total (with_token line) (after_kind kind))

number_ends : (total : ℕ) (line : Line) (before : Before) (start : ℕ) (w : List ℕ) → start + length w ≡ total → IsTrue (is_number w) → IsLongest w (w ++ []) [] →
    (o : Option TokenKind) → integer w ≡ o → Lexes total (side line before) (w ++ []) (closes_number line o start total)
number_ends total line before start w e n l (Some kind) i = token_ends total line before kind start w e (number_no_comment w [] n) l (number_spells w kind n i)
number_ends total line before start w e n l None i = fault_stops total (side line before) BadNumber start (w ++ []) _ (ap (λ z. start + length z) (append_none w) ∙ e) (bad_number l n i) refl

dots_end : (total : ℕ) (line : Line) (before : Before) (start second : ℕ) → (start + 1 ≡ second) × (second + 1 ≡ total) →
    Lexes total (side line before) (46 ∷ 46 ∷ []) (after (token (Punctuator Dot) start second ∷ []) (closes_token (with_token line) (Punctuator Dot) second total))
dots_end total line before start second e =
    token_goes total line before (Punctuator Dot) start second (46 ∷ []) (46 ∷ 46 ∷ []) (46 ∷ []) (closes_token (with_token line) (Punctuator Dot) second total)
    (omega arith) e.1 refl (dot_longest [] tt) refl (token_ends total (with_token line) Solid (Punctuator Dot) second (46 ∷ []) e.1 refl (punct_longest Dot [] tt) refl)

run_ends : (total : ℕ) (line : Line) (before : Before) (first last : ℕ) (bs : List ℕ) → last + length (92 ∷ bs) ≡ total → NoJoin (92 ∷ bs) → IsFalse (begins_comment (92 ∷ bs)) →
    Run total (side line before) first (92 ∷ bs) (closes_backslash before first last)
run_ends total line Free first last bs e n c = run_over total (side line Free) first (92 ∷ bs) _ n refl (fault_stops total (side line Free) BadByte last (92 ∷ bs) _ e (bad_backslash_at total (side line Free) bs n) refl)
run_ends total line Solid first last bs e n c = run_fails total (side line Solid) first (92 ∷ bs) _ n c refl
run_ends total line AfterSlash first last bs e n c = run_fails total (side line AfterSlash) first (92 ∷ bs) _ n (and_left _ _ c) refl

run_ends_clear : (total : ℕ) (line : Line) (before : Before) (first : ℕ) → Run total (side line before) first [] (closing line total)
run_ends_clear total line Free first = run_over total (side line Free) first [] _ no_join_none refl (closing_at total line Free)
run_ends_clear total line Solid first = run_over total (side line Solid) first [] _ no_join_none refl (closing_at total line Solid)
run_ends_clear total line AfterSlash first = run_over total (side line AfterSlash) first [] _ no_join_none refl (closing_at total line AfterSlash)

slash_ends : (total : ℕ) (line : Line) (before : Before) (first : ℕ) → before ≡ Solid → Run total (side line before) first (47 ∷ []) (fault SplitToken first)
slash_ends total line Solid first e = run_fails total (side line Solid) first (47 ∷ []) _ (no_join_at 47 [] (λ k. omega arith)) refl refl
slash_ends total line Free first e = absurd cc
slash_ends total line AfterSlash first e = absurd cc

none_in_block : (cs : List ℕ) → InBlock [] cs → ⊥
none_in_block cs h = elim h [ ]

none_after_star : (cs : List ℕ) → AfterStar [] cs → ⊥
none_after_star cs (join j h) = no_join_none _ j

one_in_block : (b : ℕ) (cs : List ℕ) → b ≢ 42 → InBlock (b ∷ []) cs → ⊥
one_in_block b cs n (star e h) = n e
one_in_block b cs n (other m h) = none_in_block cs h

star_alone : (cs : List ℕ) → AfterStar (92 ∷ []) cs → ⊥
star_alone cs (slash e) = omega arith
star_alone cs (join j k) = no_join_alone _ j
star_alone cs (goes_on n m k) = one_in_block 92 cs (λ e. omega arith) k

pair_in_block : (cs : List ℕ) → InBlock (92 ∷ 13 ∷ []) cs → ⊥
pair_in_block cs (star e k) = omega arith
pair_in_block cs (other n k) = one_in_block 13 cs (λ e. omega arith) k

star_pair : (cs : List ℕ) → AfterStar (92 ∷ 13 ∷ []) cs → ⊥
star_pair cs (slash e) = omega arith
star_pair cs (join j k) = no_join_pair _ j
star_pair cs (goes_on n m k) = pair_in_block cs k

block_open : (stage : BlockStage) (cs : List ℕ) → InStage stage [] cs → ⊥
block_open InsideBlock cs h = none_in_block cs h
block_open AtStar cs h = none_after_star cs h
block_open StarBackslash cs h = star_alone cs h
block_open StarReturn cs h = star_pair cs h

line_over : (stage : LineStage) → InLineStage stage [] []
line_over InsideLine = text_ends
line_over LineBackslash = any (λ e. omega arith) no_join_alone text_ends
line_over LineReturn = any (λ e. omega arith) no_join_pair (any (λ e. omega arith) (no_join_at 13 [] (λ e. omega arith)) text_ends)

pub end_from : (total : ℕ) (line : Line) (before : Before) (mode : Mode) (text : List ℕ) → Sound before mode text total → Completes total line before mode text [] (end_in_mode line before mode text total)
end_from total line before Between text s = closing_at total line before
end_from total line before (InWord start) text s = let w = whole_word text s.1 in token_ends total line before (Word text) start text s.0 (word_no_comment text [] w) (word_longest text [] s.1 tt) (w, refl)
end_from total line before (InNumber start last) text s = number_ends total line before start text s.0 (whole_number last text s.1) (number_longest last text [] s.1 tt) (integer text) refl
end_from total line before (InPunct start p) text s = token_ends total line before (Punctuator p) start (spelling p) s (punct_no_comment p (spelling p) [] (shape p) tt) (punct_longest p [] tt) refl
end_from total line before (TwoDots start second) text s = dots_end total line before start second s
end_from total line before (Backslash first) text s = fault_stops total (side line before) BadByte first (92 ∷ []) _ s (bad_backslash_at total (side line before) [] no_join_alone) refl
end_from total line before (BackslashReturn first) text s = fault_stops total (side line before) BadByte first (92 ∷ 13 ∷ []) _ s (bad_backslash_at total (side line before) (13 ∷ []) no_join_pair) refl
end_from total line before (Joined first) text s = run_ends_clear total line before first
end_from total line before (JoinedBackslash first last) text s = run_ends total line before first last [] s no_join_alone refl
end_from total line before (JoinedReturn first last) text s = run_ends total line before first last (13 ∷ []) s no_join_pair refl
end_from total line before (JoinedSlash first slash_) text s = slash_ends total line before first s.0
end_from total line before (Block start stage) text s = inr (block_open stage, refl)
end_from total line before (LineComment stage) text s = record { rest = []; comment = line_over stage; then = closing_at total line Free }
end_from total line before (Faulted kind where_) text s = refl
