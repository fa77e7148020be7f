-- What the readers of expressions and directives answer, for any phrase that these stand in.
use Rattle.std.specs.Prelude.{◌≡◌, ℕ, ◌-◌, ◌≤◌, ◌<◌, Bool, true, false, cond, List, [], ◌∷◌, ◌++◌, length, drop, slice_get, Option, Some, None, Result, Ok, Err}
use Rattle.c_tree.specs.Placed.{Expr, Directive}
use Rattle.c_tree.specs.PlacedOf.{placed_expr, placed_directive}
use Rattle.c_tree.specs.Forget.{forget_expr, forget_directive}
use Rattle.c_tree.specs.BareOf.{bare_expr, bare_directive}
use Rattle.c_tree.specs.Height.{expr_height, directive_height}
use Rattle.c_tree.specs.declared.tree.Span.{Span}
use Rattle.c_tree.specs.declared.tree.Expr as code
use Rattle.c_tree.specs.declared.tree.Directive as code_directive
use Rattle.c_lexer.specs.declared.token.Token.{Token}
use Rattle.c_lexer.specs.declared.token.TokenKind.TheVariants as k
use Rattle.c_lexer.specs.declared.token.Punct.TheVariants.{Question, SquareOpen}
use Rattle.c_lexer.specs.Words.{is_outside}
use Rattle.pragma_grammar.specs.declared.phrase.Phrase.{Phrase}
use Rattle.pragma_grammar.specs.declared.phrase.Phrase.TheVariants.{Whole, Deep}
use Rattle.pragma_grammar.specs.declared.phrase.ParseKind.{ParseKind}
use Rattle.pragma_grammar.specs.declared.phrase.ParseKind.TheVariants.{Syntax, Outside}
use Rattle.pragma_grammar.specs.declared.phrase.ParseFault.{ParseFault}
use Rattle.pragma_grammar.specs.declared.phrase.ParseFault.TheVariants.{At, Memory}
use Rattle.pragma_grammar.specs.Symbols.{Symbol, symbol, symbols, punct, line_end, spanning}
use Rattle.pragma_grammar.specs.Expressions
use Rattle.pragma_grammar.specs.Expressions.{binary_of}
use Rattle.pragma_grammar.specs.Directives.{DirectivePhrase}
use Rattle.pragma_grammar.specs.Deep.{deep_expr, deep_directive}

-- the tokens of a text end with End
abbrev pub EndsText : List Token → Type 0
EndsText [] = ⊥
EndsText (t ∷ []) = t.kind ≡ k.End
EndsText (t ∷ u ∷ ts) = EndsText (u ∷ ts)

-- ---- the kind of a fault

-- a token stands on a `#` line where the end of that line is the first to come of a `#` and an end of such a line
abbrev pub on_directive_line : List Token → Bool
on_directive_line [] = false
on_directive_line (t ∷ ts) = elim t.kind [ k.Word w ↦ on_directive_line ts | k.Number v ty z ↦ on_directive_line ts | k.Punct p ↦ on_directive_line ts | k.Hash ↦ false | k.LineEnd ↦ true | k.End ↦ false ]

-- how the first of the tokens is blamed, with those that follow it
abbrev pub blamed_as : Token → List Token → ParseKind
blamed_as t ts = cond (is_outside t.kind (on_directive_line ts)) Outside Syntax

-- ---- whole phrases and faults, for phrases `Spelled e ts us` that end before what meets `Ends`

module _ (T : Type 0) (Spelled : T → List Symbol → List Symbol → Type 0) (Ends : List Symbol → Type 0) where
  -- the one whole phrase of `ts` is `e`, and `us` is left
  pub record IsWhole (ts : List Symbol) (e : T) (us : List Symbol) : Type 0 where
    pub phrase : Spelled e ts us
    pub ends : Ends us
    pub only : (e' : T) (us' : List Symbol) → Spelled e' ts us' → Ends us' → (e ≡ e') × (us ≡ us')

  -- The tokens have no whole phrase. Those before the blamed one begin some phrase, whatever follows it, and those
  -- through the blamed one begin none.
  pub record IsFault (ts : List Token) (kind : ParseKind) (place : ℕ) : Type 0 where
    pub before : List Token
    pub token : Token
    pub rest : List Token
    pub parts : ts ≡ before ++ token ∷ rest
    pub at_place : place ≡ token.span.start
    pub of_kind : kind ≡ blamed_as token rest
    pub tree : T
    pub more : List Token
    pub begins : (us : List Symbol) → Spelled tree (symbols (before ++ more) ++ us) us
    pub none : (e : T) (vs us : List Symbol) → Spelled e (symbols before ++ symbol token ∷ vs) us → Ends us → ⊥

  -- the whole phrase at an index, up to another one
  pub record IsPhrase (tokens : List Token) (at : ℕ) (e : T) (next : ℕ) : Type 0 where
    pub forward : at < next
    pub within : next < length tokens
    pub whole : IsWhole (symbols (drop at tokens)) e (symbols (drop next tokens))

-- from the token at an index to the one before another index
abbrev pub span_or_none : Option Token → Span
span_or_none None = record { start = 0; end = 0 }
span_or_none (Some t) = t.span

abbrev pub between : List Token → ℕ → ℕ → Span
between tokens at next = spanning (span_or_none (slice_get tokens at)) (span_or_none (slice_get tokens (next - 1)))

-- ---- expressions, each with the place of its phrase

abbrev pub SpelledExpr : Expr × Span → List Symbol → List Symbol → Type 0
SpelledExpr p ts us = Expressions.Phrase 0 p.0 p.1 ts us

-- the symbol goes on with an expression: it is a binary operator, `?` or `[`
pub data GoesOn : Symbol → Type 0 where
  by_operator : {t : Symbol} {o : _} → binary_of t ≡ Some o → GoesOn t
  by_question : {s : Span} → GoesOn (punct Question s)
  by_square : {s : Span} → GoesOn (punct SquareOpen s)

-- some symbol stands here, and it doesn't go on with an expression
pub data Stops : List Symbol → Type 0 where
  stops : {t : Symbol} {ts : List Symbol} → (GoesOn t → ⊥) → Stops (t ∷ ts)

-- some place is too deep exactly where the height is above 256
abbrev pub DeepWhereAbove : Expr → Type 0
DeepWhereAbove e = (deep_expr e ≡ None → expr_height (forget_expr e) ≤ 256) × (expr_height (forget_expr e) ≤ 256 → deep_expr e ≡ None)

abbrev pub WholeExpr : List Symbol → Expr × Span → List Symbol → Type 0
WholeExpr = IsWhole (Expr × Span) SpelledExpr Stops

abbrev pub ExprFault : List Token → ParseKind → ℕ → Type 0
ExprFault = IsFault (Expr × Span) SpelledExpr Stops

-- what `read_expr` answers at an index
abbrev pub IsExprRead : List Token → ℕ → Result (Phrase code.Expr) ParseFault → Type 0
IsExprRead tokens at (Ok (Whole tree height next)) = IsPhrase (Expr × Span) SpelledExpr Stops tokens at (placed_expr tree, between tokens at next) next × (height ≡ expr_height (bare_expr tree)) × (height ≤ 256)
IsExprRead tokens at (Ok (Deep place next)) = (e : Expr) × IsPhrase (Expr × Span) SpelledExpr Stops tokens at (e, between tokens at next) next × (deep_expr e ≡ Some place)
IsExprRead tokens at (Err (At kind place)) = ExprFault (drop at tokens) kind place
IsExprRead tokens at (Err Memory) = Unit {0}

-- ---- directives from their name on, before the end of their line

abbrev pub SpelledDirective : Directive → List Symbol → List Symbol → Type 0
SpelledDirective d ts us = DirectivePhrase true d ts us

pub data EndsLine : List Symbol → Type 0 where
  ends_line : {s : Span} {ts : List Symbol} → EndsLine (line_end s ∷ ts)

-- likewise of a directive
abbrev pub DirectiveDeepWhereAbove : Directive → Type 0
DirectiveDeepWhereAbove d = (deep_directive d ≡ None → directive_height (forget_directive d) ≤ 256) × (directive_height (forget_directive d) ≤ 256 → deep_directive d ≡ None)

abbrev pub WholeDirective : List Symbol → Directive → List Symbol → Type 0
WholeDirective = IsWhole Directive SpelledDirective EndsLine

abbrev pub DirectiveFault : List Token → ParseKind → ℕ → Type 0
DirectiveFault = IsFault Directive SpelledDirective EndsLine

-- what `read_directive` answers at an index
abbrev pub IsDirectiveRead : List Token → ℕ → Result (Phrase code_directive.Directive) ParseFault → Type 0
IsDirectiveRead tokens at (Ok (Whole tree height next)) = IsPhrase Directive SpelledDirective EndsLine tokens at (placed_directive tree) next × (height ≡ directive_height (bare_directive tree)) × (height ≤ 256)
IsDirectiveRead tokens at (Ok (Deep place next)) = (d : Directive) × IsPhrase Directive SpelledDirective EndsLine tokens at d next × (deep_directive d ≡ Some place)
IsDirectiveRead tokens at (Err (At kind place)) = DirectiveFault (drop at tokens) kind place
IsDirectiveRead tokens at (Err Memory) = Unit {0}
