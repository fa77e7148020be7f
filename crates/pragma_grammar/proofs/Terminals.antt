-- A symbol by its terminal and its place.
use Rattle.std.proofs.Common.{◌≡◌, ℕ, Bool, true, false, List, [], ◌∷◌, Option, Some, None, refl, sym, ap, ◌∙◌}
use Rattle.std.specs.Prelude.{cond}
use Rattle.c_tree.specs.Bare.{Name}
use Rattle.c_tree.specs.declared.tree.Span.{Span}
use Rattle.c_lexer.specs.declared.token.Token.{Token}
use Rattle.c_lexer.specs.declared.token.TokenKind.{TokenKind}
use Rattle.c_lexer.specs.declared.token.TokenKind.TheVariants as kind
use Rattle.c_lexer.specs.declared.token.Punct.{Punct}
use Rattle.c_lexer.specs.declared.token.Punct.TheVariants as sign
use Rattle.c_lexer.specs.declared.words.Keyword.{Keyword}
use Rattle.c_lexer.specs.declared.words.Keyword.TheVariants.{LeftOut}
use Rattle.c_lexer.specs.Words.{keyword_of}
use Rattle.pragma_grammar.specs.declared.terminal.Terminal.{Terminal}
use Rattle.pragma_grammar.specs.declared.terminal.Terminal.TheVariants as term
use Rattle.pragma_grammar.specs.Symbols.{Symbol, symbol, symbol_of, word_symbol, is_static, name, number, punct, keyword, static, hash, line_end, end, place}
use Rattle.pragma_grammar.specs.Terminals.{terminal_of, unary_terminal, binary_terminal, infix_terminal}
use Rattle.pragma_grammar.specs.Expressions.{unary_of, binary_of}
use Rattle.pragma_grammar.specs.Machine.{infix_of, between}

left_out_place : (word : Name) (b : Bool) (s : Span) → place (cond b (static s) (keyword LeftOut s)) ≡ s
left_out_place word true s = refl
left_out_place word false s = refl

word_place : (word : Name) (k : Option Keyword) (s : Span) → place (word_symbol word k s) ≡ s
word_place word None s = refl
word_place word (Some LeftOut) s = left_out_place word (is_static word) s
word_place word (Some k) s = refl

kind_place : (k : TokenKind) (s : Span) → place (symbol_of k s) ≡ s
kind_place (kind.Word word) s = word_place word (keyword_of word) s
kind_place (kind.Number value ty plain_zero) s = refl
kind_place (kind.Punct p) s = refl
kind_place kind.Hash s = refl
kind_place kind.LineEnd s = refl
kind_place kind.End s = refl

-- a token's symbol stands where the token does
pub symbol_place : (token : Token) → place (symbol token) ≡ token.span
symbol_place token = kind_place token.kind token.span

is_punct_at : (p : Punct) (t : Symbol) → terminal_of t ≡ term.Punct p → t ≡ punct p (place t)
is_punct_at p (name x s) q = absurd (let z : term.Name ≡ term.Punct p = q in cc)
is_punct_at p (number v ty z s) q = absurd (let z : term.Number ≡ term.Punct p = q in cc)
is_punct_at p (punct r s) q = let z : r ≡ p = (let z : term.Punct r ≡ term.Punct p = q in cc) in ap (λ x. punct x s) z
is_punct_at p (keyword k s) q = absurd (let z : term.Keyword k ≡ term.Punct p = q in cc)
is_punct_at p (static s) q = absurd (let z : term.Static ≡ term.Punct p = q in cc)
is_punct_at p (hash s) q = absurd (let z : term.Hash ≡ term.Punct p = q in cc)
is_punct_at p (line_end s) q = absurd (let z : term.LineEnd ≡ term.Punct p = q in cc)
is_punct_at p (end s) q = absurd (let z : term.End ≡ term.Punct p = q in cc)

is_keyword_at : (k : Keyword) (t : Symbol) → terminal_of t ≡ term.Keyword k → t ≡ keyword k (place t)
is_keyword_at k (name x s) q = absurd (let z : term.Name ≡ term.Keyword k = q in cc)
is_keyword_at k (number v ty z s) q = absurd (let z : term.Number ≡ term.Keyword k = q in cc)
is_keyword_at k (punct r s) q = absurd (let z : term.Punct r ≡ term.Keyword k = q in cc)
is_keyword_at k (keyword r s) q = let z : r ≡ k = (let z : term.Keyword r ≡ term.Keyword k = q in cc) in ap (λ x. keyword x s) z
is_keyword_at k (static s) q = absurd (let z : term.Static ≡ term.Keyword k = q in cc)
is_keyword_at k (hash s) q = absurd (let z : term.Hash ≡ term.Keyword k = q in cc)
is_keyword_at k (line_end s) q = absurd (let z : term.LineEnd ≡ term.Keyword k = q in cc)
is_keyword_at k (end s) q = absurd (let z : term.End ≡ term.Keyword k = q in cc)

-- a token of such a terminal is that symbol at its place
pub is_punct : (p : Punct) (token : Token) → terminal_of (symbol token) ≡ term.Punct p → symbol token ≡ punct p token.span
is_punct p token q = is_punct_at p (symbol token) q ∙ ap (punct p) (symbol_place token)

pub is_keyword : (k : Keyword) (token : Token) → terminal_of (symbol token) ≡ term.Keyword k → symbol token ≡ keyword k token.span
is_keyword k token q = is_keyword_at k (symbol token) q ∙ ap (keyword k) (symbol_place token)

-- the operators are those of the terminal
pub unary_as : (s : Symbol) → unary_of s ≡ unary_terminal (terminal_of s)
unary_as (name x a) = refl
unary_as (number v ty z a) = refl
unary_as (punct p a) = unary_punct p a
  where
    unary_punct : (p : Punct) (a : Span) → unary_of (punct p a) ≡ unary_terminal (term.Punct p)
    unary_punct sign.Plus a = refl
    unary_punct p a = refl
unary_as (keyword k a) = refl
unary_as (static a) = refl
unary_as (hash a) = refl
unary_as (line_end a) = refl
unary_as (end a) = refl

pub binary_as : (s : Symbol) → binary_of s ≡ binary_terminal (terminal_of s)
binary_as (name x a) = refl
binary_as (number v ty z a) = refl
binary_as (punct p a) = binary_punct p a
  where
    binary_punct : (p : Punct) (a : Span) → binary_of (punct p a) ≡ binary_terminal (term.Punct p)
    binary_punct sign.Plus a = refl
    binary_punct p a = refl
binary_as (keyword k a) = refl
binary_as (static a) = refl
binary_as (hash a) = refl
binary_as (line_end a) = refl
binary_as (end a) = refl

pub infix_as : (s r : ℕ) (t : Symbol) → infix_of s r t ≡ infix_terminal s r (terminal_of t)
infix_as s r (name x a) = refl
infix_as s r (number v ty z a) = refl
infix_as s r (punct p a) = infix_punct p
  where
    infix_punct : (p : Punct) → infix_of s r (punct p a) ≡ infix_terminal s r (term.Punct p)
    infix_punct sign.Plus = refl
    infix_punct p = refl
infix_as s r (keyword k a) = refl
infix_as s r (static a) = refl
infix_as s r (hash a) = refl
infix_as s r (line_end a) = refl
infix_as s r (end a) = refl
