-- The terminal symbols of the grammar: what a token is to it, with the token's place.
use Rattle.std.specs.Prelude.{ℕ, Bool, cond, List, [], ◌∷◌, Option, Some, None, codes, bytes_eq}
use Rattle.c_tree.specs.Bare.{Name}
use Rattle.c_tree.specs.declared.tree.Span.{Span}
use Rattle.c_tree.specs.declared.tree.Ty.{Ty}
use Rattle.c_lexer.specs.declared.token.Token.{Token}
use Rattle.c_lexer.specs.declared.token.TokenKind.{TokenKind}
use Rattle.c_lexer.specs.declared.token.TokenKind.TheVariants as k
use Rattle.c_lexer.specs.declared.token.Punct.{Punct}
use Rattle.c_lexer.specs.declared.words.Keyword.{Keyword}
use Rattle.c_lexer.specs.declared.words.Keyword.TheVariants.{LeftOut}
use Rattle.c_lexer.specs.Words.{keyword_of}

-- a name is a word that is no keyword (C11 6.4.2.1); of the keywords that the profile leaves out the grammar knows
-- `static` alone
pub data Symbol : Type 0 where
  name : Name → Span → Symbol
  number : ℕ → Ty → Bool → Span → Symbol
  punct : Punct → Span → Symbol
  keyword : Keyword → Span → Symbol
  static : Span → Symbol
  hash : Span → Symbol
  line_end : Span → Symbol
  end : Span → Symbol

abbrev pub is_static : Name → Bool
is_static word = bytes_eq word (codes "static")

abbrev pub word_symbol : Name → Option Keyword → Span → Symbol
word_symbol word None s = name word s
word_symbol word (Some LeftOut) s = cond (is_static word) (static s) (keyword LeftOut s)
word_symbol word (Some keyword') s = keyword keyword' s

abbrev pub symbol_of : TokenKind → Span → Symbol
symbol_of (k.Word word) s = word_symbol word (keyword_of word) s
symbol_of (k.Number value ty plain_zero) s = number value ty plain_zero s
symbol_of (k.Punct p) s = punct p s
symbol_of k.Hash s = hash s
symbol_of k.LineEnd s = line_end s
symbol_of k.End s = end s

abbrev pub symbol : Token → Symbol
symbol t = symbol_of t.kind t.span

abbrev pub symbols : List Token → List Symbol
symbols [] = []
symbols (t ∷ ts) = symbol t ∷ symbols ts

-- where a symbol stands
abbrev pub place : Symbol → Span
place (name x s) = s
place (number value ty plain_zero s) = s
place (punct p s) = s
place (keyword k s) = s
place (static s) = s
place (hash s) = s
place (line_end s) = s
place (end s) = s

-- where the first of the symbols begins
abbrev pub start_of : List Symbol → ℕ
start_of [] = 0
start_of (t ∷ ts) = (place t).start

-- from the first token to the last one
abbrev pub spanning : Span → Span → Span
spanning first last = record { start = first.start; end = last.end }
