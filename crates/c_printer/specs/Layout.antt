-- Layouts: tokens with the white space between them, and the bytes that they stand for.
use Rattle.std.specs.Prelude.{ℕ, zero, suc, Bool, true, false, List, [], ◌∷◌, ◌++◌, codes, decimal}
use Rattle.c_tree.specs.declared.tree.Ty.{Ty}
use Rattle.c_tree.specs.declared.tree.Ty.TheVariants as ty
use Rattle.c_lexer.specs.declared.token.Punct.{Punct}
use Rattle.c_lexer.specs.declared.token.Punct.TheVariants.{RoundOpen, RoundClose, CurlyOpen, CurlyClose, Semicolon, Comma}
use Rattle.c_lexer.specs.declared.words.Keyword.{Keyword}
use Rattle.c_lexer.specs.declared.words.Keyword.TheVariants as k
use Rattle.c_lexer.specs.Lexemes.{spelling}

-- a token, a space, or the end of a line that is no `#` line
pub data Mark : Type 0 where
  name : List ℕ → Mark
  keyword : Keyword → Mark
  static : Mark
  number : ℕ → Ty → Mark
  punct : Punct → Mark
  hash : Mark
  line_end : Mark
  space : Mark
  feed : Mark

infixr 4 ◌&◌
pub data Layout : Type 0 where
  nothing : Layout
  mark : Mark → Layout
  ◌&◌ : Layout → Layout → Layout

-- ---- the bytes

-- the keywords of the profile (C11 6.4.1)
abbrev pub keyword_spelling : Keyword → List ℕ
keyword_spelling k.Break = codes "break"
keyword_spelling k.Continue = codes "continue"
keyword_spelling k.Do = codes "do"
keyword_spelling k.Else = codes "else"
keyword_spelling k.Extern = codes "extern"
keyword_spelling k.For = codes "for"
keyword_spelling k.If = codes "if"
keyword_spelling k.Input = codes "input"
keyword_spelling k.Int = codes "int"
keyword_spelling k.Long = codes "long"
keyword_spelling k.Main = codes "main"
keyword_spelling k.OmpFill = codes "omp_fill"
keyword_spelling k.Print = codes "print"
keyword_spelling k.Return = codes "return"
keyword_spelling k.Void = codes "void"
keyword_spelling k.While = codes "while"
keyword_spelling k.LeftOut = []

-- the suffix of a constant of type `long long`
abbrev pub suffix : Ty → List ℕ
suffix ty.Int = []
suffix ty.Long = codes "LL"

-- numbers are decimal
abbrev pub mark_text : Mark → List ℕ
mark_text (name x) = x
mark_text (keyword word) = keyword_spelling word
mark_text static = codes "static"
mark_text (number value t) = decimal value ++ suffix t
mark_text (punct p) = spelling p
mark_text hash = codes "#"
mark_text line_end = codes "\n"
mark_text space = codes " "
mark_text feed = codes "\n"

abbrev pub text : Layout → List ℕ
text nothing = []
text (mark m) = mark_text m
text (a & b) = text a ++ text b

-- ---- layouts of one or a few tokens

abbrev pub word : List ℕ → Layout
word x = mark (name x)

abbrev pub key : Keyword → Layout
key word = mark (keyword word)

abbrev pub sign : Punct → Layout
sign p = mark (punct p)

abbrev pub gap : Layout
gap = mark space

-- `int` or `long long`
abbrev pub type_name : Ty → Layout
type_name ty.Int = key k.Int
type_name ty.Long = key k.Long & gap & key k.Long

abbrev pub opening : Bool → Layout
opening true = sign RoundOpen
opening false = nothing

abbrev pub closing : Bool → Layout
closing true = sign RoundClose
closing false = nothing

-- in parentheses, where they are needed
abbrev pub wrapped : Bool → Layout → Layout
wrapped needed a = opening needed & a & closing needed

abbrev pub parens : Layout → Layout
parens a = sign RoundOpen & a & sign RoundClose

-- four spaces for each level
abbrev pub indent : ℕ → Layout
indent zero = nothing
indent (suc level) = gap & gap & gap & gap & indent level

-- a whole line
abbrev pub line : ℕ → Layout → Layout
line level a = indent level & a & mark feed

-- the lines of a body in braces, from the opening one to the closing one
abbrev pub braces : ℕ → Layout → Layout
braces level inner = sign CurlyOpen & mark feed & inner & indent level & sign CurlyClose

abbrev pub semicolon : Layout
semicolon = sign Semicolon

abbrev pub comma : Layout
comma = sign Comma & gap

-- a comma before an element of a list that isn't the first
abbrev pub separator : Bool → Layout
separator true = nothing
separator false = comma
