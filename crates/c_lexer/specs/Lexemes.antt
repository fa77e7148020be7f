-- Words, numbers and punctuators, and which of them is the longest at a place (C11 6.4, paragraph 4).
use Rattle.std.specs.Prelude.{◌≡◌, ℕ, ◌≤◌, Bool, false, ◌&&◌, ◌⊎◌, List, [], ◌∷◌, ◌++◌, length, Some, IsTrue, codes}
use Rattle.std.specs.List.{list_all}
use Rattle.c_lexer.specs.declared.token.TokenKind.{TokenKind}
use Rattle.c_lexer.specs.declared.token.TokenKind.TheVariants.{Word, Number, Punct as Punctuator, Hash, LineEnd, End}
use Rattle.c_lexer.specs.declared.token.Punct.{Punct}
use Rattle.c_lexer.specs.declared.token.Punct.TheVariants.{SquareOpen, SquareClose, RoundOpen, RoundClose, CurlyOpen, CurlyClose, Dot, Arrow, PlusPlus, MinusMinus, And, Star, Plus, Minus, Tilde, Bang, Slash, Percent, ShiftLeft, ShiftRight, Less, Greater, LessEq, GreaterEq, EqEq, BangEq, Caret, Bar, AndAnd, BarBar, Question, Colon, Semicolon, Ellipsis, Assign, StarAssign, SlashAssign, PercentAssign, PlusAssign, MinusAssign, ShiftLeftAssign, ShiftRightAssign, AndAssign, CaretAssign, BarAssign, Comma}
use Rattle.c_lexer.specs.Bytes.{begins_word, goes_in_word}
use Rattle.c_lexer.specs.Numbers.{is_number, integer}

-- a letter or `_`, then letters, digits and `_`
abbrev pub is_word : List ℕ → Bool
is_word [] = false
is_word (b ∷ bs) = begins_word b && list_all goes_in_word bs

abbrev pub spelling : Punct → List ℕ
spelling SquareOpen = codes "["
spelling SquareClose = codes "]"
spelling RoundOpen = codes "("
spelling RoundClose = codes ")"
spelling CurlyOpen = codes "{"
spelling CurlyClose = codes "}"
spelling Dot = codes "."
spelling Arrow = codes "->"
spelling PlusPlus = codes "++"
spelling MinusMinus = codes "--"
spelling And = codes "&"
spelling Star = codes "*"
spelling Plus = codes "+"
spelling Minus = codes "-"
spelling Tilde = codes "~"
spelling Bang = codes "!"
spelling Slash = codes "/"
spelling Percent = codes "%"
spelling ShiftLeft = codes "<<"
spelling ShiftRight = codes ">>"
spelling Less = codes "<"
spelling Greater = codes ">"
spelling LessEq = codes "<="
spelling GreaterEq = codes ">="
spelling EqEq = codes "=="
spelling BangEq = codes "!="
spelling Caret = codes "^"
spelling Bar = codes "|"
spelling AndAnd = codes "&&"
spelling BarBar = codes "||"
spelling Question = codes "?"
spelling Colon = codes ":"
spelling Semicolon = codes ";"
spelling Ellipsis = codes "..."
spelling Assign = codes "="
spelling StarAssign = codes "*="
spelling SlashAssign = codes "/="
spelling PercentAssign = codes "%="
spelling PlusAssign = codes "+="
spelling MinusAssign = codes "-="
spelling ShiftLeftAssign = codes "<<="
spelling ShiftRightAssign = codes ">>="
spelling AndAssign = codes "&="
spelling CaretAssign = codes "^="
spelling BarAssign = codes "|="
spelling Comma = codes ","

-- what a longest token is sought among
abbrev pub IsLexeme : List ℕ → Type 0
IsLexeme w = IsTrue (is_word w) ⊎ IsTrue (is_number w) ⊎ ((p : Punct) × (w ≡ spelling p))

-- bs is w and the rest cs, and w is the longest of all lexemes that stand first
pub record IsLongest (w bs cs : List ℕ) : Type 0 where
  pub parts : bs ≡ w ++ cs
  pub lexeme : IsLexeme w
  pub longest : (v ds : List ℕ) → bs ≡ v ++ ds → IsLexeme v → length v ≤ length w

-- the bytes are spelled as a token of this kind
abbrev pub Spells : TokenKind → List ℕ → Type 0
Spells (Word name) w = IsTrue (is_word w) × (name ≡ w)
Spells (Number value ty plain_zero) w = IsTrue (is_number w) × (integer w ≡ Some (Number value ty plain_zero))
Spells (Punctuator p) w = w ≡ spelling p
Spells Hash w = ⊥
Spells LineEnd w = ⊥
Spells End w = ⊥
