-- What is asked of the first of the tokens that are left, and what its answer says.
use Rattle.std.specs.Prelude.{◌≡◌, ℕ, cond, List, ◌∷◌, Option, Some, None, codes, bytes_eq, Result, Ok, Err}
use Rattle.c_tree.specs.Bare.{Name}
use Rattle.c_tree.specs.declared.tree.Span.{Span}
use Rattle.c_lexer.specs.declared.token.Token.{Token}
use Rattle.c_lexer.specs.declared.token.Punct.{Punct}
use Rattle.c_lexer.specs.declared.token.Punct.TheVariants as p
use Rattle.c_lexer.specs.declared.words.Keyword.{Keyword}
use Rattle.c_lexer.specs.declared.words.Keyword.TheVariants as k
use Rattle.c_lexer.specs.Words.{keyword_of}
use Rattle.pragma_grammar.specs.declared.phrase.ParseFault.{ParseFault}
use Rattle.pragma_grammar.specs.Symbols.{Symbol, symbol, name, punct, keyword, line_end}
use Rattle.c_parser.specs.declared.cursor.Class as code
use Rattle.c_parser.specs.declared.cursor.Class.TheVariants as c
use Rattle.c_grammar.specs.Goals.{Goal, takes, may, at, Class, round_open, round_close, curly_open, curly_close, square_close, semicolon, comma, assign, else_word, while_word, void_word, print_word, input_word, main_word, int_word, long_word, return_word, pragma_word, omp_word, define_word, the_line_end, take}
use Rattle.c_parser.specs.Comes.{Leads, Fails}

-- ---- classes

abbrev pub class_of : code.Class → Class
class_of c.RoundOpen = round_open
class_of c.RoundClose = round_close
class_of c.CurlyOpen = curly_open
class_of c.CurlyClose = curly_close
class_of c.SquareClose = square_close
class_of c.Semicolon = semicolon
class_of c.Comma = comma
class_of c.Assign = assign
class_of c.Else = else_word
class_of c.While = while_word
class_of c.Void = void_word
class_of c.Print = print_word
class_of c.Input = input_word
class_of c.Main = main_word
class_of c.Int = int_word
class_of c.Long = long_word
class_of c.Return = return_word
class_of c.Pragma = pragma_word
class_of c.Omp = omp_word
class_of c.Define = define_word
class_of c.LineEnd = the_line_end

abbrev pub class_of_punct : Punct → Option code.Class
class_of_punct p.RoundOpen = Some c.RoundOpen
class_of_punct p.RoundClose = Some c.RoundClose
class_of_punct p.CurlyOpen = Some c.CurlyOpen
class_of_punct p.CurlyClose = Some c.CurlyClose
class_of_punct p.SquareClose = Some c.SquareClose
class_of_punct p.Semicolon = Some c.Semicolon
class_of_punct p.Comma = Some c.Comma
class_of_punct p.Assign = Some c.Assign
class_of_punct _ = None

abbrev pub class_of_keyword : Keyword → Option code.Class
class_of_keyword k.Else = Some c.Else
class_of_keyword k.While = Some c.While
class_of_keyword k.Void = Some c.Void
class_of_keyword k.Print = Some c.Print
class_of_keyword k.Input = Some c.Input
class_of_keyword k.Main = Some c.Main
class_of_keyword k.Int = Some c.Int
class_of_keyword k.Long = Some c.Long
class_of_keyword k.Return = Some c.Return
class_of_keyword _ = None

-- the names that are words of a `#` line
abbrev pub class_of_name : Name → Option code.Class
class_of_name x = cond (bytes_eq x (codes "pragma")) (Some c.Pragma) (cond (bytes_eq x (codes "omp")) (Some c.Omp) (cond (bytes_eq x (codes "define")) (Some c.Define) None))

-- the one class that a symbol may be of
abbrev pub class_at : Symbol → Option code.Class
class_at (punct p s) = class_of_punct p
class_at (keyword k s) = class_of_keyword k
class_at (name x s) = class_of_name x
class_at (line_end s) = Some c.LineEnd
class_at t = None

abbrev pub found_class : Name → Option Keyword → Option code.Class
found_class word None = class_of_name word
found_class word (Some k) = class_of_keyword k

abbrev pub class_of_word : Name → Option code.Class
class_of_word word = found_class word (keyword_of word)

-- ---- what a question's answer says, of the tokens `ts` before it and `us` after it

-- the first token is of the class, and stands there, or it isn't, and is left
abbrev pub IsFound : Class → List Token → Option Span → List Token → Type 0
IsFound c ts (Some z) us = (t : Token) × (ts ≡ t ∷ us) × (take c (symbol t) ≡ Some z)
IsFound c ts None us = (us ≡ ts) × ((t : Token) (rest : List Token) → ts ≡ t ∷ rest → take c (symbol t) ≡ None)

abbrev pub IsTaken : Class → List Token → Result Span ParseFault → List Token → Type 0
IsTaken c ts (Ok z) us = (f : Span → Goal) → Leads (takes c f) ts (f z) us
IsTaken c ts (Err fault) us = (f : Span → Goal) → Fails (takes c f) ts fault

abbrev pub IsMayTaken : Class → List Token → Option Span → List Token → Type 0
IsMayTaken c ts (Some z) us = (f : Span → Goal) (g : Goal) → Leads (may c f g) ts (f z) us
IsMayTaken c ts None us = (f : Span → Goal) (g : Goal) → Leads (may c f g) ts g us

-- the place of the first token
abbrev pub IsPlace : List Token → ℕ → Type 0
IsPlace ts n = (f : ℕ → Goal) → Leads (at f) ts (f n) ts
