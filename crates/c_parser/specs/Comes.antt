-- What comes of a goal at the tokens that are left: the runs of the automaton. What is asked for next is answered for each
-- goal after it, so a reader's contract speaks of its own phrase alone.
use Rattle.std.specs.Prelude.{◌≡◌, ℕ, List, [], ◌∷◌, drop}
use Rattle.c_tree.specs.Placed.{Expr, Directive}
use Rattle.c_tree.specs.declared.tree.Span.{Span}
use Rattle.c_lexer.specs.declared.token.Token.{Token}
use Rattle.pragma_grammar.specs.declared.phrase.ParseKind.{ParseKind}
use Rattle.pragma_grammar.specs.declared.phrase.ParseFault.{ParseFault}
use Rattle.pragma_grammar.specs.declared.phrase.ParseFault.TheVariants.{At, Memory}
use Rattle.pragma_grammar.specs.Symbols.{symbol}
use Rattle.pragma_grammar.specs.Reading.{blamed_as, IsPhrase, Stops, SpelledExpr, ExprFault, EndsLine, SpelledDirective, DirectiveFault}
use Rattle.c_grammar.specs.Programs.{Started}
use Rattle.c_grammar.specs.Goals.{Goal, takes, the_line_end, step, stuck, leads, reads, directs, accepts}

-- a goal at the tokens after what was read, a blame, or the items of a program that was read to its end
pub data Outcome : Type 0 where
  reaches : Goal → List Token → Outcome
  blames : ParseKind → ℕ → Outcome
  ends_with : List Started → Outcome

-- `Comes x ts o`: from the goal `x` at the tokens `ts` comes `o`. A token leads on; or fits nowhere; or does what it does
-- at another goal, in whose place `x` then stands; or an expression or a directive is read, or isn't there; or it is the
-- last one, or there is one after it.
pub data Comes : Goal → List Token → Outcome → Type 0 where
  there : {x : Goal} {ts : List Token} → Comes x ts (reaches x ts)
  goes : {x y : Goal} {t : Token} {ts : List Token} {o : Outcome} → step x (symbol t) ≡ leads y → Comes y ts o → Comes x (t ∷ ts) o
  alike : {x y : Goal} {t : Token} {ts : List Token} {o : Outcome} → step x (symbol t) ≡ step y (symbol t) → Comes y (t ∷ ts) o → Comes x (t ∷ ts) o
  sticks : {x : Goal} {t : Token} {ts : List Token} → step x (symbol t) ≡ stuck → Comes x (t ∷ ts) (blames (blamed_as t ts) t.span.start)
  expr_read : {x : Goal} {f : Expr → Span → Goal} {t : Token} {ts : List Token} {e : Expr × Span} {n : ℕ} {o : Outcome}
      → step x (symbol t) ≡ reads f → IsPhrase (Expr × Span) SpelledExpr Stops (t ∷ ts) 0 e n → Comes (f e.0 e.1) (drop n (t ∷ ts)) o → Comes x (t ∷ ts) o
  no_expr : {x : Goal} {f : Expr → Span → Goal} {t : Token} {ts : List Token} {kind : ParseKind} {place : ℕ}
      → step x (symbol t) ≡ reads f → ExprFault (t ∷ ts) kind place → Comes x (t ∷ ts) (blames kind place)
  directive_read : {x : Goal} {f : Directive → Goal} {t : Token} {ts : List Token} {d : Directive} {n : ℕ} {o : Outcome}
      → step x (symbol t) ≡ directs f → IsPhrase Directive SpelledDirective EndsLine (t ∷ ts) 0 d n → Comes (takes the_line_end (λ z. f d)) (drop n (t ∷ ts)) o → Comes x (t ∷ ts) o
  no_directive : {x : Goal} {f : Directive → Goal} {t : Token} {ts : List Token} {kind : ParseKind} {place : ℕ}
      → step x (symbol t) ≡ directs f → DirectiveFault (t ∷ ts) kind place → Comes x (t ∷ ts) (blames kind place)
  last_token : {x : Goal} {t : Token} {items : List Started} → step x (symbol t) ≡ accepts items → Comes x (t ∷ []) (ends_with items)
  one_after : {x : Goal} {t u : Token} {ts : List Token} {items : List Started} → step x (symbol t) ≡ accepts items → Comes x (t ∷ u ∷ ts) (blames (blamed_as u ts) u.span.start)

-- the goal `x` at the tokens `ts` leads to the goal `y` at the tokens `us`
abbrev pub Leads : Goal → List Token → Goal → List Token → Type 0
Leads x ts y us = (o : Outcome) → Comes y us o → Comes x ts o

-- a fault at the goal `x` is one of the text
abbrev pub Fails : Goal → List Token → ParseFault → Type 0
Fails x ts (At kind place) = Comes x ts (blames kind place)
Fails x ts Memory = Unit {0}

-- the first token is blamed
abbrev pub IsBlamed : List Token → ParseFault → Type 0
IsBlamed ts fault = (t : Token) (rest : List Token) → ts ≡ t ∷ rest → fault ≡ At (blamed_as t rest) t.span.start
