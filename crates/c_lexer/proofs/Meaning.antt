-- What a state of the machine stands for: how the bytes that follow complete it to an answer.
use Rattle.std.proofs.Common.{◌≡◌, ◌⊎◌, ℕ, ◌+◌, List, [], ◌∷◌, ◌++◌, length, sym, ap, ◌∙◌, subst, subst₂, arith, inl, inr}
use Rattle.std.specs.Prelude.{IsTrue, IsFalse}
use Rattle.c_lexer.specs.declared.mode.Mode.{Mode}
use Rattle.c_lexer.specs.declared.mode.Mode.TheVariants.{Between, Word as InWord, Number as InNumber, Punct as InPunct, TwoDots, Backslash, BackslashReturn, Joined, JoinedBackslash, JoinedReturn, JoinedSlash, Block, LineComment, Faulted}
use Rattle.c_lexer.specs.declared.mode.BlockStage.{BlockStage}
use Rattle.c_lexer.specs.declared.mode.BlockStage.TheVariants.{Inside as InsideBlock, Star as AtStar, StarBackslash, StarReturn}
use Rattle.c_lexer.specs.declared.mode.LineStage.{LineStage}
use Rattle.c_lexer.specs.declared.mode.LineStage.TheVariants.{Inside as InsideLine, Backslash as LineBackslash, Return as LineReturn}
use Rattle.c_lexer.specs.declared.context.Line.{Line}
use Rattle.c_lexer.specs.declared.context.Before.{Before}
use Rattle.c_lexer.specs.declared.context.Before.TheVariants.{Free, Solid}
use Rattle.c_lexer.specs.declared.token.TokenKind.{TokenKind}
use Rattle.c_lexer.specs.declared.token.LexKind.{LexKind}
use Rattle.c_lexer.specs.declared.token.LexKind.TheVariants.{OpenComment, SplitToken}
use Rattle.c_lexer.specs.Bytes.{Join, NoJoin, Joins, last as last_join, more as more_joins}
use Rattle.c_lexer.specs.Comments.{begins_comment, InBlock, AfterStar, InLine}
use Rattle.c_lexer.specs.Lexemes.{IsLongest, Spells, spelling}
use Rattle.c_lexer.specs.Cut.{Side, side, token, with_token, after_kind, place, allowed, joins, lexeme, Fault, split_token, Answer, fault, after, Lexes, stops, goes}
use Rattle.c_lexer.specs.Machine.{Move}
use Rattle.c_lexer.proofs.Longest.{IsOpenWord, IsOpenNumber}

-- the joins that are left of a run
pub data Tail : List ℕ → List ℕ → Type 0 where
  over : {bs : List ℕ} → NoJoin bs → Tail bs bs
  again : {bs cs ds : List ℕ} → Join bs cs → Tail cs ds → Tail bs ds

pub run_of : {bs cs ds : List ℕ} → Join bs cs → Tail cs ds → Joins bs ds
run_of j (over n) = last_join j n
run_of j (again k t) = more_joins j (run_of k t)

-- a run of joins that began at a place goes on, and then the text, or the run is a fault
pub record Run (total : ℕ) (s : Side) (first : ℕ) (bs : List ℕ) (a : Answer) : Type 0 where
  pub rest : List ℕ
  pub tail : Tail bs rest
  pub outcome : (IsTrue (allowed s.before rest) × Lexes total s rest a) ⊎ (IsFalse (allowed s.before rest) × (a ≡ fault SplitToken first))

-- a comment goes on, and then the text
pub record Commented (total : ℕ) (s : Side) (inside : List ℕ → List ℕ → Type 0) (bs : List ℕ) (a : Answer) : Type 0 where
  pub rest : List ℕ
  pub comment : inside bs rest
  pub then : Lexes total s rest a

-- a block comment that began at a place goes on, and then the text, or it has no end
abbrev pub Blocked : ℕ → Side → (List ℕ → List ℕ → Type 0) → ℕ → List ℕ → Answer → Type 0
Blocked total s inside start bs a = Commented total s inside bs a ⊎ (((cs : List ℕ) → inside bs cs → ⊥) × (a ≡ fault OpenComment start))

abbrev pub InStage : BlockStage → List ℕ → List ℕ → Type 0
InStage InsideBlock bs cs = InBlock bs cs
InStage AtStar bs cs = AfterStar bs cs
InStage StarBackslash bs cs = AfterStar (92 ∷ bs) cs
InStage StarReturn bs cs = AfterStar (92 ∷ 13 ∷ bs) cs

abbrev pub InLineStage : LineStage → List ℕ → List ℕ → Type 0
InLineStage InsideLine bs cs = InLine bs cs
InLineStage LineBackslash bs cs = InLine (92 ∷ bs) cs
InLineStage LineReturn bs cs = InLine (92 ∷ 13 ∷ bs) cs

-- these bytes complete the state to this answer
abbrev pub Completes : ℕ → Line → Before → Mode → List ℕ → List ℕ → Answer → Type 0
Completes total line before Between text bs a = Lexes total (side line before) bs a
Completes total line before (InWord start) text bs a = Lexes total (side line before) (text ++ bs) a
Completes total line before (InNumber start last) text bs a = Lexes total (side line before) (text ++ bs) a
Completes total line before (InPunct start p) text bs a = Lexes total (side line before) (spelling p ++ bs) a
Completes total line before (TwoDots start second) text bs a = Lexes total (side line before) (46 ∷ 46 ∷ bs) a
Completes total line before (Backslash first) text bs a = Lexes total (side line before) (92 ∷ bs) a
Completes total line before (BackslashReturn first) text bs a = Lexes total (side line before) (92 ∷ 13 ∷ bs) a
Completes total line before (Joined first) text bs a = Run total (side line before) first bs a
Completes total line before (JoinedBackslash first last) text bs a = Run total (side line before) first (92 ∷ bs) a
Completes total line before (JoinedReturn first last) text bs a = Run total (side line before) first (92 ∷ 13 ∷ bs) a
Completes total line before (JoinedSlash first slash) text bs a = Run total (side line before) first (47 ∷ bs) a
Completes total line before (Block start stage) text bs a = Blocked total (side line Free) (InStage stage) start bs a
Completes total line before (LineComment stage) text bs a = Commented total (side line Free) (InLineStage stage) bs a
Completes total line before (Faulted kind at) text bs a = a ≡ fault kind at

abbrev pub Next : ℕ → Move → List ℕ → Answer → Type 0
Next total m bs a = Completes total m.next.line m.next.before m.next.mode m.next.text bs a

-- what is kept of a state before a place
abbrev pub Sound : Before → Mode → List ℕ → ℕ → Type 0
Sound before Between text at = Unit {0}
Sound before (InWord start) text at = (start + length text ≡ at) × IsOpenWord text
Sound before (InNumber start last) text at = (start + length text ≡ at) × IsOpenNumber last text
Sound before (InPunct start p) text at = start + length (spelling p) ≡ at
Sound before (TwoDots start second) text at = (start + 1 ≡ second) × (second + 1 ≡ at)
Sound before (Backslash first) text at = first + 1 ≡ at
Sound before (BackslashReturn first) text at = first + 2 ≡ at
Sound before (Joined first) text at = Unit {0}
Sound before (JoinedBackslash first last) text at = last + 1 ≡ at
Sound before (JoinedReturn first last) text at = last + 2 ≡ at
Sound before (JoinedSlash first slash) text at = (before ≡ Solid) × (slash + 1 ≡ at)
Sound before (Block start stage) text at = Unit {0}
Sound before (LineComment stage) text at = Unit {0}
Sound before (Faulted kind where_) text at = Unit {0}

abbrev pub SoundNext : Move → ℕ → Type 0
SoundNext m at = Sound m.next.before m.next.mode m.next.text at

pub place_at : (total at : ℕ) (bs : List ℕ) → at + length bs ≡ total → place total bs ≡ at
place_at total at bs e = omega arith

-- a token that ends, and what comes after it
pub token_goes : (total : ℕ) (line : Line) (before : Before) (kind : TokenKind) (start at : ℕ) (w bs cs : List ℕ) (a : Answer) →
    start + length bs ≡ total → at + length cs ≡ total → IsFalse (begins_comment bs) → IsLongest w bs cs → Spells kind w →
    Lexes total (side (with_token line) (after_kind kind)) cs a → Lexes total (side line before) bs (after (token kind start at ∷ []) a)
token_goes total line before kind start at w bs cs a e f n l k h =
    subst₂ (λ m n. Lexes total (side line before) bs (after (token kind m n ∷ []) a)) (place_at total start bs e) (place_at total at cs f) (goes (lexeme n l k) h)

-- a fault at a place
pub fault_stops : (total : ℕ) (s : Side) (kind : LexKind) (at : ℕ) (bs : List ℕ) (a : Answer) → at + length bs ≡ total → Fault s bs kind → a ≡ fault kind at → Lexes total s bs a
fault_stops total s kind at bs a e f g = subst (λ z. Lexes total s bs z) (ap (fault kind) (place_at total at bs e) ∙ sym g) (stops f)

-- a run of joins from its start on
pub run_goes : (total : ℕ) (s : Side) (first : ℕ) (bs cs : List ℕ) (a : Answer) → first + length bs ≡ total → Join bs cs → Run total s first cs a → Lexes total s bs a
run_goes total s first bs cs a e j r = by r.outcome
  where
    by : (IsTrue (allowed s.before r.rest) × Lexes total s r.rest a) ⊎ (IsFalse (allowed s.before r.rest) × (a ≡ fault SplitToken first)) → Lexes total s bs a
    by (inl h) = goes (joins (run_of j r.tail) h.0) h.1
    by (inr h) = fault_stops total s SplitToken first bs a e (split_token (run_of j r.tail) h.0) h.1

-- a run that ended where no join stands
pub run_over : (total : ℕ) (s : Side) (first : ℕ) (bs : List ℕ) (a : Answer) → NoJoin bs → IsTrue (allowed s.before bs) → Lexes total s bs a → Run total s first bs a
run_over total s first bs a n l h = record { rest = bs; tail = over n; outcome = inl (l, h) }

pub run_fails : (total : ℕ) (s : Side) (first : ℕ) (bs : List ℕ) (a : Answer) → NoJoin bs → IsFalse (allowed s.before bs) → a ≡ fault SplitToken first → Run total s first bs a
run_fails total s first bs a n l h = record { rest = bs; tail = over n; outcome = inr (l, h) }

pub run_again : (total : ℕ) (s : Side) (first : ℕ) (bs cs : List ℕ) (a : Answer) → Join bs cs → Run total s first cs a → Run total s first bs a
run_again total s first bs cs a j r = record { rest = r.rest; tail = again j r.tail; outcome = r.outcome }
