-- A symbol without its place, the spelling of a name and the value of a number.
use Rattle.std.specs.Prelude.{ℕ, Bool, true, false, leb, cond, Option, Some, None}
use Rattle.c_tree.specs.Bare.{Name}
use Rattle.c_tree.specs.declared.tree.Ty.{Ty}
use Rattle.c_tree.specs.declared.tree.Ty.TheVariants as ty
use Rattle.c_tree.specs.declared.tree.UnOp.{UnOp}
use Rattle.c_tree.specs.declared.tree.UnOp.TheVariants as u
use Rattle.c_tree.specs.declared.tree.BinOp.{BinOp}
use Rattle.c_tree.specs.declared.tree.BinOp.TheVariants as b
use Rattle.c_lexer.specs.declared.token.Punct.TheVariants as p
use Rattle.c_lexer.specs.declared.words.Keyword.{Keyword}
use Rattle.c_lexer.specs.declared.words.Keyword.TheVariants as k
use Rattle.c_lexer.specs.Words.{keyword_of}
use Rattle.pragma_grammar.specs.declared.terminal.Terminal.{Terminal}
use Rattle.pragma_grammar.specs.declared.terminal.Terminal.TheVariants as t
use Rattle.pragma_grammar.specs.declared.open_phrase.Infix.{Infix}
use Rattle.pragma_grammar.specs.declared.open_phrase.Infix.TheVariants.{Choice}
use Rattle.pragma_grammar.specs.Machine.{both, between}
use Rattle.pragma_grammar.specs.Symbols.{Symbol, name, number, punct, keyword, static, hash, line_end, end, is_static}

abbrev pub terminal_of : Symbol → Terminal
terminal_of (name x s) = t.Name
terminal_of (number value ty plain_zero s) = t.Number
terminal_of (punct p s) = t.Punct p
terminal_of (keyword k s) = t.Keyword k
terminal_of (static s) = t.Static
terminal_of (hash s) = t.Hash
terminal_of (line_end s) = t.LineEnd
terminal_of (end s) = t.End

abbrev pub found_terminal : Name → Option Keyword → Terminal
found_terminal word None = t.Name
found_terminal word (Some k.LeftOut) = cond (is_static word) t.Static (t.Keyword k.LeftOut)
found_terminal word (Some keyword') = t.Keyword keyword'

-- of a word
abbrev pub terminal_of_word : Name → Terminal
terminal_of_word word = found_terminal word (keyword_of word)

-- the operators, by terminals
abbrev pub unary_terminal : Terminal → Option UnOp
unary_terminal (t.Punct p.Plus) = Some u.Plus
unary_terminal (t.Punct p.Minus) = Some u.Neg
unary_terminal (t.Punct p.Bang) = Some u.Not
unary_terminal _ = None

abbrev pub binary_terminal : Terminal → Option BinOp
binary_terminal (t.Punct p.Star) = Some b.Mul
binary_terminal (t.Punct p.Slash) = Some b.Div
binary_terminal (t.Punct p.Percent) = Some b.Rem
binary_terminal (t.Punct p.Plus) = Some b.Add
binary_terminal (t.Punct p.Minus) = Some b.Sub
binary_terminal (t.Punct p.Less) = Some b.Lt
binary_terminal (t.Punct p.LessEq) = Some b.Le
binary_terminal (t.Punct p.Greater) = Some b.Gt
binary_terminal (t.Punct p.GreaterEq) = Some b.Ge
binary_terminal (t.Punct p.EqEq) = Some b.Eq
binary_terminal (t.Punct p.BangEq) = Some b.Ne
binary_terminal (t.Punct p.AndAnd) = Some b.And
binary_terminal (t.Punct p.BarBar) = Some b.Or
binary_terminal _ = None

abbrev pub infix_terminal : ℕ → ℕ → Terminal → Option Infix
infix_terminal s r (t.Punct p.Question) = both (leb s 0) (leb 1 r) Choice
infix_terminal s r t = between s r (binary_terminal t)

-- the punctuators that close or open an operand
abbrev pub is_square_open : Terminal → Bool
is_square_open (t.Punct p.SquareOpen) = true
is_square_open _ = false

abbrev pub is_square_close : Terminal → Bool
is_square_close (t.Punct p.SquareClose) = true
is_square_close _ = false

abbrev pub is_colon : Terminal → Bool
is_colon (t.Punct p.Colon) = true
is_colon _ = false

-- the word that begins a type's name: `int` is one, `long` wants another
abbrev pub begun_type : Terminal → Option Ty
begun_type (t.Keyword k.Int) = Some ty.Int
begun_type (t.Keyword k.Long) = Some ty.Long
begun_type _ = None
