-- The tokens that a text is cut into, and its first lexical fault (C11 5.1.1.2, phases 2 and 3, and 6.4; which joins
-- are allowed is a rule of the profile).
use Rattle.std.specs.Prelude.{◌≡◌, ℕ, ◌-◌, Bool, true, not, ◌&&◌, ◌||◌, List, [], ◌∷◌, ◌++◌, length, None, IsTrue, IsFalse}
use Rattle.c_lexer.specs.declared.context.Line.{Line}
use Rattle.c_lexer.specs.declared.context.Line.TheVariants.{Fresh, Begun, Directive}
use Rattle.c_lexer.specs.declared.context.Before.{Before}
use Rattle.c_lexer.specs.declared.context.Before.TheVariants.{Free, Solid, Slash as AfterSlash}
use Rattle.c_lexer.specs.declared.token.Token.{Token}
use Rattle.c_lexer.specs.declared.token.TokenKind.{TokenKind}
use Rattle.c_lexer.specs.declared.token.TokenKind.TheVariants.{Punct as Punctuator, Hash, LineEnd, End}
use Rattle.c_lexer.specs.declared.token.Punct.TheVariants.{Slash}
use Rattle.c_lexer.specs.declared.token.LexKind.{LexKind}
use Rattle.c_lexer.specs.declared.token.LexKind.TheVariants.{BadByte, OpenComment, BadNumber, SplitToken}
use Rattle.c_lexer.specs.declared.token.LexFault.{LexFault}
use Rattle.c_lexer.specs.declared.token.LexFault.TheVariants.{At, Memory}
use Rattle.c_lexer.specs.Bytes.{is_blank, is_feed, NoJoin, Joins}
use Rattle.c_lexer.specs.Comments.{begins_comment, InBlock, Comment}
use Rattle.c_lexer.specs.Numbers.{is_number, integer}
use Rattle.c_lexer.specs.Lexemes.{IsLexeme, IsLongest, Spells}

-- what stands before a place: on its line, and directly before it
pub record Side : Type 0 where
  pub line : Line
  pub before : Before

abbrev pub side : Line → Before → Side
side line before = record { line = line; before = before }

abbrev pub token : TokenKind → ℕ → ℕ → Token
token kind start end = record { kind = kind; span = record { start = start; end = end } }

-- the line after one more token on it
abbrev pub with_token : Line → Line
with_token Fresh = Begun
with_token Begun = Begun
with_token Directive = Directive

-- what a token leaves directly before the place after it
abbrev pub after_kind : TokenKind → Before
after_kind (Punctuator Slash) = AfterSlash
after_kind _ = Solid

-- the LineEnd of a `#` line that ends at a place
abbrev pub line_end : Line → ℕ → List Token
line_end Directive place = token LineEnd place place ∷ []
line_end _ place = []

-- white space, the end of a line or of the text, or a comment stands first
abbrev pub clears : List ℕ → Bool
clears [] = true
clears (b ∷ bs) = is_blank b || is_feed b || begins_comment (b ∷ bs)

-- A run of joins is allowed where white space, the end of a line, the end of a comment or the text's start stands before
-- it, or white space, a line's end, a comment or the text's end after it. It may not part a `/` from what would
-- make it begin a comment.
abbrev pub allowed : Before → List ℕ → Bool
allowed Free cs = true
allowed Solid cs = clears cs
allowed AfterSlash cs = clears cs && not (begins_comment (47 ∷ cs))

-- In a text of this many bytes, the place from which on these bytes are left.
abbrev pub place : ℕ → List ℕ → ℕ
place total bs = total - length bs

-- The bytes of bs before cs are one piece. It gives these tokens, and leaves t before the place after it where s stands
-- before the one at which it begins.
pub data Piece (total : ℕ) (s : Side) : List ℕ → List Token → Side → List ℕ → Type 0 where
  blank : {b : ℕ} {bs : List ℕ} → IsTrue (is_blank b) → Piece total s (b ∷ bs) [] (side s.line Free) bs
  feed : {b : ℕ} {bs : List ℕ} → IsTrue (is_feed b) → Piece total s (b ∷ bs) (line_end s.line (place total (b ∷ bs))) (side Fresh Free) bs
  joins : {bs cs : List ℕ} → Joins bs cs → IsTrue (allowed s.before cs) → Piece total s bs [] s cs
  comment : {bs cs : List ℕ} → Comment bs cs → Piece total s bs [] (side s.line Free) cs
  hash : {b : ℕ} {bs : List ℕ} → b ≡ 35 → s.line ≡ Fresh → Piece total s (b ∷ bs) (token Hash (place total (b ∷ bs)) (place total bs) ∷ []) (side Directive Solid) bs
  lexeme : {kind : TokenKind} {bs w cs : List ℕ} → IsFalse (begins_comment bs) → IsLongest w bs cs → Spells kind w →
      Piece total s bs (token kind (place total bs) (place total cs) ∷ []) (side (with_token s.line) (after_kind kind)) cs

-- no piece and no other fault begins with the byte
pub record BeginsNothing (s : Side) (b : ℕ) (bs : List ℕ) : Type 0 where
  pub no_blank : IsFalse (is_blank b)
  pub no_feed : IsFalse (is_feed b)
  pub no_join : NoJoin (b ∷ bs)
  pub no_hash : b ≡ 35 → s.line ≡ Fresh → ⊥
  pub no_lexeme : (w : List ℕ) → IsLexeme (b ∷ w) → ⊥

-- at a place with s before it, the bytes begin with a fault
pub data Fault (s : Side) : List ℕ → LexKind → Type 0 where
  bad_byte : {b : ℕ} {bs : List ℕ} → BeginsNothing s b bs → Fault s (b ∷ bs) BadByte
  open_comment : {a b : ℕ} {bs : List ℕ} → a ≡ 47 → b ≡ 42 → ((cs : List ℕ) → InBlock bs cs → ⊥) → Fault s (a ∷ b ∷ bs) OpenComment
  bad_number : {bs w cs : List ℕ} → IsLongest w bs cs → IsTrue (is_number w) → integer w ≡ None → Fault s bs BadNumber
  split_token : {bs cs : List ℕ} → Joins bs cs → IsFalse (allowed s.before cs) → Fault s bs SplitToken

-- how the lexical analysis ends: with tokens, or with a fault at a place
pub data Answer : Type 0 where
  tokens : List Token → Answer
  fault : LexKind → ℕ → Answer

-- the answer with tokens before its own
abbrev pub with_first : Token → Answer → Answer
with_first t (tokens ts) = tokens (t ∷ ts)
with_first t (fault kind at) = fault kind at

abbrev pub after : List Token → Answer → Answer
after [] a = a
after (t ∷ ts) a = with_first t (after ts a)

-- The bytes, with s before them, are pieces to the end, or pieces and then a fault.
pub data Lexes (total : ℕ) : Side → List ℕ → Answer → Type 0 where
  ends : {s : Side} → Lexes total s [] (tokens (line_end s.line total ++ token End total total ∷ []))
  stops : {s : Side} {bs : List ℕ} {kind : LexKind} → Fault s bs kind → Lexes total s bs (fault kind (place total bs))
  goes : {s t : Side} {bs cs : List ℕ} {ts : List Token} {a : Answer} → Piece total s bs ts t cs → Lexes total t cs a → Lexes total s bs (after ts a)

-- the text is pieces that give these tokens
abbrev pub Cut : List ℕ → List Token → Type 0
Cut text ts = Lexes (length text) (side Fresh Free) text (tokens ts)

-- the text is pieces, and then this fault at this place
abbrev pub FirstFault : List ℕ → LexKind → ℕ → Type 0
FirstFault text kind at = Lexes (length text) (side Fresh Free) text (fault kind at)

abbrev pub IsFault : List ℕ → LexFault → Type 0
IsFault text (At kind at) = FirstFault text kind at
IsFault text Memory = Unit {0}
