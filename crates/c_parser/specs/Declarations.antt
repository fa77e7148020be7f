-- Declarations, as they are taken from the tokens that are left: what a declarator says of its name, and the statements
-- that it gives.
use Rattle.std.specs.Prelude.{◌≡◌, ℕ, Bool, List, Some, None, Result, Ok, Err}
use Rattle.c_tree.specs.Bare.{Name}
use Rattle.c_tree.specs.Placed.{Expr, no_exprs, target, decl, input, Stmts, more_stmts}
use Rattle.c_tree.specs.declared.tree.Span.{Span}
use Rattle.c_tree.specs.declared.tree.Ty.{Ty}
use Rattle.c_tree.specs.declared.tree.Stmt as code_stmt
use Rattle.c_lexer.specs.declared.token.Token.{Token}
use Rattle.pragma_grammar.specs.declared.phrase.ParseFault.{ParseFault}
use Rattle.pragma_grammar.specs.declared.directive_kept.Kept as code
use Rattle.pragma_grammar.specs.DirectiveKept.{keep_expr}
use Rattle.pragma_grammar.specs.DirectiveStands.{expr_of}
use Rattle.c_parser.specs.declared.declarations.Said as code_said
use Rattle.c_parser.specs.declared.declarations.Said.TheVariants as v
use Rattle.c_parser.specs.Bodies.{Grown}
use Rattle.c_parser.specs.Comes.{Leads, Fails}
use Rattle.c_grammar.specs.Goals.{Goal, declarator, declaration, units}

-- nothing, a value, or that it is read, where the word `input` stands at the place
pub data Said : Type 0 where
  unset : Said
  valued : Expr → Said
  read_in : ℕ → Said

-- the statements of a declarator of a name at `a`, which begin at `from` and end at `to`, before the statements `rest`
abbrev pub said_stmts : Said → Ty → ℕ → Name → Span → ℕ → Stmts → Stmts
said_stmts unset ty from x a to rest = more_stmts (decl ty x a None (record { start = from; end = to })) rest
said_stmts (valued e) ty from x a to rest = more_stmts (decl ty x a (Some e) (record { start = from; end = to })) rest
said_stmts (read_in at) ty from x a to rest = more_stmts (decl ty x a None (record { start = from; end = a.end })) (more_stmts (input (target x no_exprs a) at (record { start = a.start; end = to })) rest)

abbrev pub IsSaid : code_said.Said → Said → Type 0
IsSaid v.Unset d = d ≡ unset
IsSaid (v.Valued value) d = (e : Expr) × (expr_of value ≡ keep_expr e) × (d ≡ valued e)
IsSaid (v.ReadIn at) d = d ≡ read_in at

-- what follows the name at `a`
abbrev pub IsSaidTaken : Span → List Token → Result (code_said.Said × Span) ParseFault → List Token → Type 0
IsSaidTaken a ts (Ok r) us = (d : Said) × IsSaid r.0 d × ((ty : Ty) (from : ℕ) (x : Name) (f : (ℕ → Stmts → Stmts) → Span → Goal) → Leads (declarator ty from x a f) ts (f (said_stmts d ty from x a) r.1) us)
IsSaidTaken a ts (Err fault) us = (ty : Ty) (from : ℕ) (x : Name) (f : (ℕ → Stmts → Stmts) → Span → Goal) → Fails (declarator ty from x a f) ts fault

-- the statements of a declaration that begins at `from`, through `;`, after those before it
abbrev pub AreDeclared : Ty → ℕ → (Stmts → Stmts) → List Token → Result (code.Kept (List code_stmt.Stmt)) ParseFault → List Token → Type 0
AreDeclared ty from before ts (Ok r) us = (after : Stmts → Stmts) × Grown r after × ((m : Bool) (f : Stmts → Span → Goal) → Leads (declaration ty from m (λ rs. f (before rs))) ts (units m (λ rs. f (after rs))) us)
AreDeclared ty from before ts (Err fault) us = (m : Bool) (f : Stmts → Span → Goal) → Fails (declaration ty from m (λ rs. f (before rs))) ts fault
