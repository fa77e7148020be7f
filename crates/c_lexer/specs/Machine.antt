-- The lexer as a machine that takes a byte at a time.
use Rattle.std.specs.Prelude.{ℕ, ◌+◌, Bool, false, ◌||◌, ◌==◌, if◌then◌else◌, List, [], ◌∷◌, ◌++◌, Option, Some, None}
use Rattle.c_lexer.specs.declared.class.Class.{Class}
use Rattle.c_lexer.specs.declared.class.Class.TheVariants.{Feed, Blank, Backslash as BackslashByte, Letter, Digit, Hash as HashByte, Punct as Punctuation, Other}
use Rattle.c_lexer.specs.declared.mode.Growth.{Growth}
use Rattle.c_lexer.specs.declared.mode.Growth.TheVariants.{Grows, Dots, OpensBlock, OpensLine, Ends}
use Rattle.c_lexer.specs.declared.mode.Mode.{Mode}
use Rattle.c_lexer.specs.declared.mode.Mode.TheVariants.{Between, Word as InWord, Number as InNumber, Punct as InPunct, TwoDots, Backslash, BackslashReturn, Joined, JoinedBackslash, JoinedReturn, JoinedSlash, Block, LineComment, Faulted}
use Rattle.c_lexer.specs.declared.mode.BlockStage.{BlockStage}
use Rattle.c_lexer.specs.declared.mode.BlockStage.TheVariants.{Inside as InBlock, Star as AtStar, StarBackslash, StarReturn}
use Rattle.c_lexer.specs.declared.mode.LineStage.{LineStage}
use Rattle.c_lexer.specs.declared.mode.LineStage.TheVariants.{Inside as InLine, Backslash as LineBackslash, Return as LineReturn}
use Rattle.c_lexer.specs.declared.context.Line.{Line}
use Rattle.c_lexer.specs.declared.context.Line.TheVariants.{Fresh, Directive}
use Rattle.c_lexer.specs.declared.context.Before.{Before}
use Rattle.c_lexer.specs.declared.context.Before.TheVariants.{Free, Solid, Slash as AfterSlash}
use Rattle.c_lexer.specs.declared.token.Token.{Token}
use Rattle.c_lexer.specs.declared.token.TokenKind.{TokenKind}
use Rattle.c_lexer.specs.declared.token.TokenKind.TheVariants.{Word, Punct as Punctuator, Hash, End}
use Rattle.c_lexer.specs.declared.token.Punct.{Punct}
use Rattle.c_lexer.specs.declared.token.Punct.TheVariants.{Dot, Ellipsis}
use Rattle.c_lexer.specs.declared.token.LexKind.{LexKind}
use Rattle.c_lexer.specs.declared.token.LexKind.TheVariants.{BadByte, OpenComment, BadNumber, SplitToken}
use Rattle.c_lexer.specs.Bytes.{is_blank, is_feed, goes_in_word}
use Rattle.c_lexer.specs.Numbers.{goes_on, integer}
use Rattle.c_lexer.specs.Cut.{token, with_token, after_kind, line_end, Answer, tokens, fault, after}
use Rattle.c_lexer.specs.Classes.{class_of, growth}

-- what stands before the open piece, the piece, and its bytes where it is a word or a number
pub record State : Type 0 where
  pub line : Line
  pub before : Before
  pub mode : Mode
  pub text : List ℕ

abbrev pub state : Line → Before → Mode → State
state line before mode = record { line = line; before = before; mode = mode; text = [] }

-- tokens that are whole, and the state
pub record Move : Type 0 where
  pub whole : List Token
  pub next : State

abbrev pub to : State → Move
to s = record { whole = []; next = s }

abbrev pub gives : List Token → Move → Move
gives ts m = record { whole = ts ++ m.whole; next = m.next }

abbrev pub faulted : LexKind → ℕ → Move
faulted kind place = to (state Fresh Free (Faulted kind place))

-- A byte at a place begins a piece.
abbrev pub hash : Line → ℕ → Move
hash Fresh at = record { whole = token Hash at (at + 1) ∷ []; next = state Directive Solid Between }
hash _ at = faulted BadByte at

abbrev pub begin_class : Line → Before → ℕ → ℕ → Class → Move
begin_class line before at b Feed = record { whole = line_end line at; next = state Fresh Free Between }
begin_class line before at b Blank = to (state line Free Between)
begin_class line before at b BackslashByte = to (state line before (Backslash at))
begin_class line before at b Letter = to (record { line = line; before = before; mode = InWord at; text = b ∷ [] })
begin_class line before at b Digit = to (record { line = line; before = before; mode = InNumber at b; text = b ∷ [] })
begin_class line before at b HashByte = hash line at
begin_class line before at b (Punctuation p) = to (state line before (InPunct at p))
begin_class line before at b Other = faulted BadByte at

abbrev pub begin : Line → Before → ℕ → ℕ → Move
begin line before at b = begin_class line before at b (class_of b)

-- A token that began at a place ends, and the byte begins a piece.
abbrev pub ends_token : Line → TokenKind → ℕ → ℕ → ℕ → Move
ends_token line kind start at b = gives (token kind start at ∷ []) (begin (with_token line) (after_kind kind) at b)

abbrev pub ends_number : Line → Option TokenKind → ℕ → ℕ → ℕ → Move
ends_number line (Some kind) start at b = ends_token line kind start at b
ends_number line None start at b = faulted BadNumber start

abbrev pub grows : Line → Before → Punct → ℕ → ℕ → ℕ → Growth → Move
grows line before p start at b (Grows q) = to (state line before (InPunct start q))
grows line before p start at b Dots = to (state line before (TwoDots start at))
grows line before p start at b OpensBlock = to (state line before (Block start InBlock))
grows line before p start at b OpensLine = to (state line before (LineComment InLine))
grows line before p start at b Ends = ends_token line (Punctuator p) start at b

abbrev pub two_dots : Line → ℕ → ℕ → ℕ → ℕ → Move
two_dots line start second at b = gives (token (Punctuator Dot) start second ∷ []) (ends_token (with_token line) (Punctuator Dot) second at b)

-- A run of joins ends before a byte that is no backslash.
abbrev pub leaves_run : Line → Before → ℕ → ℕ → ℕ → Move
leaves_run line Free first at b = begin line Free at b
leaves_run line Solid first at b =
    if is_blank b || is_feed b then begin line Solid at b else
    if b == 47 then to (state line Solid (JoinedSlash first at)) else faulted SplitToken first
leaves_run line AfterSlash first at b =
    if is_blank b || is_feed b then begin line AfterSlash at b else faulted SplitToken first

-- A run of joins ends before a backslash that is no join.
abbrev pub bad_backslash : Before → ℕ → ℕ → Move
bad_backslash Free first last = faulted BadByte last
bad_backslash _ first last = faulted SplitToken first

abbrev pub block_stage : BlockStage → ℕ → BlockStage
block_stage InBlock b = if b == 42 then AtStar else InBlock
block_stage AtStar b = if b == 42 then AtStar else if b == 92 then StarBackslash else InBlock
block_stage StarBackslash b = if b == 10 then AtStar else if b == 13 then StarReturn else if b == 42 then AtStar else InBlock
block_stage StarReturn b = if b == 10 then AtStar else if b == 42 then AtStar else InBlock

abbrev pub ends_block : BlockStage → ℕ → Bool
ends_block AtStar b = b == 47
ends_block _ b = false

abbrev pub line_stage : LineStage → ℕ → LineStage
line_stage InLine b = if b == 92 then LineBackslash else InLine
line_stage LineBackslash b = if b == 92 then LineBackslash else if b == 13 then LineReturn else InLine
line_stage LineReturn b = if b == 92 then LineBackslash else InLine

abbrev pub ends_line : LineStage → ℕ → Bool
ends_line InLine b = is_feed b
ends_line _ b = false

-- what a byte at a place does, by the open piece
abbrev pub in_mode : Line → Before → Mode → List ℕ → ℕ → ℕ → Move
in_mode line before Between text at b = begin line before at b
in_mode line before (InWord start) text at b =
    if goes_in_word b then to (record { line = line; before = before; mode = InWord start; text = text ++ b ∷ [] })
    else ends_token line (Word text) start at b
in_mode line before (InNumber start last) text at b =
    if goes_on last b then to (record { line = line; before = before; mode = InNumber start b; text = text ++ b ∷ [] })
    else ends_number line (integer text) start at b
in_mode line before (InPunct start p) text at b = grows line before p start at b (growth p b)
in_mode line before (TwoDots start second) text at b =
    if b == 46 then to (state line before (InPunct start Ellipsis)) else two_dots line start second at b
in_mode line before (Backslash first) text at b =
    if is_feed b then to (state line before (Joined first)) else
    if b == 13 then to (state line before (BackslashReturn first)) else faulted BadByte first
in_mode line before (BackslashReturn first) text at b =
    if is_feed b then to (state line before (Joined first)) else faulted BadByte first
in_mode line before (Joined first) text at b =
    if b == 92 then to (state line before (JoinedBackslash first at)) else leaves_run line before first at b
in_mode line before (JoinedBackslash first last) text at b =
    if is_feed b then to (state line before (Joined first)) else
    if b == 13 then to (state line before (JoinedReturn first last)) else bad_backslash before first last
in_mode line before (JoinedReturn first last) text at b =
    if is_feed b then to (state line before (Joined first)) else bad_backslash before first last
in_mode line before (JoinedSlash first slash) text at b =
    if b == 42 then to (state line before (Block slash InBlock)) else
    if b == 47 then to (state line before (LineComment InLine)) else faulted SplitToken first
in_mode line before (Block start stage) text at b =
    if ends_block stage b then to (state line Free Between) else to (state line before (Block start (block_stage stage b)))
in_mode line before (LineComment stage) text at b =
    if ends_line stage b then begin line Free at b else to (state line before (LineComment (line_stage stage b)))
in_mode line before (Faulted kind place) text at b = faulted kind place

abbrev pub step : State → ℕ → ℕ → Move
step s at b = in_mode s.line s.before s.mode s.text at b

-- the last tokens of a text that ends at a place
abbrev pub closing : Line → ℕ → Answer
closing line at = tokens (line_end line at ++ token End at at ∷ [])

abbrev pub closes_token : Line → TokenKind → ℕ → ℕ → Answer
closes_token line kind start at = after (token kind start at ∷ []) (closing (with_token line) at)

abbrev pub closes_number : Line → Option TokenKind → ℕ → ℕ → Answer
closes_number line (Some kind) start at = closes_token line kind start at
closes_number line None start at = fault BadNumber start

abbrev pub closes_backslash : Before → ℕ → ℕ → Answer
closes_backslash Free first last = fault BadByte last
closes_backslash _ first last = fault SplitToken first

-- what the end of the text does, by the open piece
abbrev pub end_in_mode : Line → Before → Mode → List ℕ → ℕ → Answer
end_in_mode line before Between text at = closing line at
end_in_mode line before (InWord start) text at = closes_token line (Word text) start at
end_in_mode line before (InNumber start last) text at = closes_number line (integer text) start at
end_in_mode line before (InPunct start p) text at = closes_token line (Punctuator p) start at
end_in_mode line before (TwoDots start second) text at = after (token (Punctuator Dot) start second ∷ []) (closes_token (with_token line) (Punctuator Dot) second at)
end_in_mode line before (Backslash first) text at = fault BadByte first
end_in_mode line before (BackslashReturn first) text at = fault BadByte first
end_in_mode line before (Joined first) text at = closing line at
end_in_mode line before (JoinedBackslash first last) text at = closes_backslash before first last
end_in_mode line before (JoinedReturn first last) text at = closes_backslash before first last
end_in_mode line before (JoinedSlash first slash) text at = fault SplitToken first
end_in_mode line before (Block start stage) text at = fault OpenComment start
end_in_mode line before (LineComment stage) text at = closing line at
end_in_mode line before (Faulted kind place) text at = fault kind place

abbrev pub end : State → ℕ → Answer
end s at = end_in_mode s.line s.before s.mode s.text at

-- the answer for a text of which these bytes are left from a place on
abbrev pub answer : State → ℕ → List ℕ → Answer
answer s at [] = end s at
answer s at (b ∷ bs) = let m = step s at b in after m.whole (answer m.next (at + 1) bs)

abbrev pub start : State
start = state Fresh Free Between
