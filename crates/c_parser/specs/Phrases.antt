-- Expressions and directives, each taken whole.
use Rattle.std.specs.Prelude.{◌≡◌, ℕ, List, Result, Ok, Err}
use Rattle.c_tree.specs.Placed.{Expr, Directive}
use Rattle.c_tree.specs.declared.tree.Span.{Span}
use Rattle.c_tree.specs.declared.tree.Expr as code_expr
use Rattle.c_tree.specs.declared.tree.Directive as code_directive
use Rattle.c_lexer.specs.declared.token.Token.{Token}
use Rattle.pragma_grammar.specs.declared.phrase.Phrase.{Phrase}
use Rattle.pragma_grammar.specs.declared.phrase.Phrase.TheVariants as p
use Rattle.pragma_grammar.specs.declared.phrase.ParseFault.{ParseFault}
use Rattle.pragma_grammar.specs.declared.directive_kept.Kept.{Kept}
use Rattle.pragma_grammar.specs.declared.directive_kept.Kept.TheVariants.{Whole, Deep}
use Rattle.pragma_grammar.specs.DirectiveKept.{keep_expr, keep_directive}
use Rattle.pragma_grammar.specs.DirectiveStands.{expr_of, directive_of}
use Rattle.c_grammar.specs.Goals.{Goal, takes, the_line_end, expr, directive}
use Rattle.c_parser.specs.Comes.{Leads, Fails}

-- what is kept of a phrase that was read, and the index of the token after it
abbrev pub kept_of : {X : Type 0} → Phrase X → Kept X
kept_of (p.Whole tree height next) = Whole tree height
kept_of (p.Deep place next) = Deep place

abbrev pub next_of : {X : Type 0} → Phrase X → ℕ
next_of (p.Whole tree height next) = next
next_of (p.Deep place next) = next

abbrev pub IsExprTaken : List Token → Result (Kept code_expr.Expr × Span) ParseFault → List Token → Type 0
IsExprTaken ts (Ok r) us = (e : Expr) × (expr_of r.0 ≡ keep_expr e) × ((f : Expr → Span → Goal) → Leads (expr f) ts (f e r.1) us)
IsExprTaken ts (Err fault) us = (f : Expr → Span → Goal) → Fails (expr f) ts fault

abbrev pub IsDirectiveTaken : List Token → Result (Kept code_directive.Directive) ParseFault → List Token → Type 0
IsDirectiveTaken ts (Ok r) us = (d : Directive) × (directive_of r ≡ keep_directive d) × ((f : Directive → Goal) → Leads (directive f) ts (takes the_line_end (λ z. f d)) us)
IsDirectiveTaken ts (Err fault) us = (f : Directive → Goal) → Fails (directive f) ts fault
