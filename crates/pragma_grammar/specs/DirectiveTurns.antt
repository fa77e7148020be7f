-- What the reader of directives does at a token: where an expression is wanted, it reads one.
use Rattle.std.specs.Prelude.{◌≡◌, ℕ, Bool, true, false, List, Result, Ok, Err}
use Rattle.c_tree.specs.Placed as placed
use Rattle.c_tree.specs.PlacedOf.{placed_expr}
use Rattle.c_tree.specs.declared.tree.Expr.{Expr}
use Rattle.c_tree.specs.declared.tree.Directive.{Directive}
use Rattle.c_lexer.specs.declared.token.Token.{Token}
use Rattle.pragma_grammar.specs.declared.phrase.Phrase.{Phrase}
use Rattle.pragma_grammar.specs.declared.phrase.Phrase.TheVariants.{Whole, Deep}
use Rattle.pragma_grammar.specs.declared.phrase.ParseFault.{ParseFault}
use Rattle.pragma_grammar.specs.declared.directive_kept.Kept as code
use Rattle.pragma_grammar.specs.declared.directive_kept.Kept.TheVariants as c
use Rattle.pragma_grammar.specs.declared.directive_state.Held.{Held}
use Rattle.pragma_grammar.specs.declared.directive.Turn.{Turn}
use Rattle.pragma_grammar.specs.declared.directive.Turn.TheVariants.{Letter, Token as Itself}
use Rattle.pragma_grammar.specs.Symbols.{Symbol}
use Rattle.pragma_grammar.specs.Reading.{IsExprRead}
use Rattle.pragma_grammar.specs.DirectiveMachine as machine
use Rattle.pragma_grammar.specs.DirectiveKept.{Kept, kept, deep, keeps}
use Rattle.pragma_grammar.specs.DirectiveStands.{KeptOpen, KeptState, part_of, asked_of, held_of, stands}

-- an expression is read exactly where the automaton expects one
abbrev pub TakesTurn : Turn → KeptState → Symbol → List KeptOpen → Type 0
TakesTurn (Letter asked at part) s t k = (s ≡ machine.wanting (asked_of asked) at (part_of part) k) × (machine.wants_letter keeps (asked_of asked) t ≡ true)
TakesTurn (Itself state) s t k = (s ≡ stands state k) × (machine.expects keeps s t ≡ false)

-- what is kept of an expression that was read, and the index of the token after it
abbrev pub kept_expr : Phrase Expr → Kept placed.Expr
kept_expr (Whole tree height next) = kept height (placed_expr tree)
kept_expr (Deep place next) = deep place

abbrev pub next_of : Phrase Expr → ℕ
next_of (Whole tree height next) = next
next_of (Deep place next) = next

-- what was asked for has its expression, or there is none
abbrev pub IsLetterRead : List Token → ℕ → machine.Asked keeps → Result (Held × ℕ) ParseFault → Type 0
IsLetterRead tokens at asked (Ok r) = (p : Phrase Expr) × IsExprRead tokens at (Ok p) × (held_of r.0 ≡ machine.take keeps asked (kept_expr p)) × (r.1 ≡ next_of p)
IsLetterRead tokens at asked (Err fault) = IsExprRead tokens at (Err fault)

-- a directive as it was kept
abbrev pub phrase_of : code.Kept Directive → ℕ → Phrase Directive
phrase_of (c.Whole tree height) next = Whole tree height next
phrase_of (c.Deep place) next = Deep place next
