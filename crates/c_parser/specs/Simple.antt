-- Lists of expressions, targets, assignments and steps, as they are taken from the tokens that are left.
use Rattle.std.specs.Prelude.{◌≡◌, ℕ, ◌<◌, Bool, true, false, List, length, Result, Ok, Err}
use Rattle.c_tree.specs.Bare.{Name}
use Rattle.c_tree.specs.Placed as placed
use Rattle.c_tree.specs.Placed.{Expr, Exprs, no_exprs, more_exprs, Target, Stmt}
use Rattle.c_tree.specs.declared.tree.Span.{Span}
use Rattle.c_tree.specs.declared.tree.SetOp.{SetOp}
use Rattle.c_tree.specs.declared.tree.Expr as code_expr
use Rattle.c_tree.specs.declared.tree.Target as code_target
use Rattle.c_tree.specs.declared.tree.Stmt as code_stmt
use Rattle.c_lexer.specs.declared.token.Token.{Token}
use Rattle.pragma_grammar.specs.declared.phrase.ParseFault.{ParseFault}
use Rattle.pragma_grammar.specs.declared.directive_kept.Kept as code
use Rattle.pragma_grammar.specs.DirectiveKept.{Kept, one, both, keep_expr, keep_exprs}
use Rattle.pragma_grammar.specs.DirectiveStands.{expr_of, exprs_of}
use Rattle.c_parser.specs.declared.simple.Simple.{Simple}
use Rattle.c_parser.specs.declared.simple.Simple.TheVariants as v
use Rattle.c_parser.specs.Kept.{target_of, stmt_of, keep_target, keep_stmt, node_of}
use Rattle.c_grammar.specs.Goals.{Goal, takes, may, round_open, round_close, square_close, expr, stopping, subscripts, listed, target_goal, ends_statement}
use Rattle.c_parser.specs.Comes.{Leads, Fails}

-- a `[` was taken, or none stands first
abbrev pub OpensSubscript : List Token → Bool → List Token → Type 0
OpensSubscript ts true us = (length us < length ts) × ((a : Span) (f : Exprs → Span → Goal) → Leads (subscripts a f) ts (expr (λ e w. takes square_close (λ y. subscripts y (λ es z. f (more_exprs e es) z)))) us)
OpensSubscript ts false us = (a : Span) (f : Exprs → Span → Goal) → Leads (subscripts a f) ts (stopping (f no_exprs a)) us

-- subscripts after a token at `a`, through the last `]`, and no more of them
abbrev pub AreSubscriptsTaken : Span → List Token → Result (code.Kept (List code_expr.Expr) × Span) ParseFault → List Token → Type 0
AreSubscriptsTaken a ts (Ok r) us = (es : Exprs) × (exprs_of r.0 ≡ keep_exprs es) × ((f : Exprs → Span → Goal) → Leads (subscripts a f) ts (f es r.1) us)
AreSubscriptsTaken a ts (Err fault) us = (f : Exprs → Span → Goal) → Fails (subscripts a f) ts fault

-- expressions with commas between them, through `)`
abbrev pub AreListedTaken : List Token → Result (code.Kept (List code_expr.Expr) × Span) ParseFault → List Token → Type 0
AreListedTaken ts (Ok r) us = (es : Exprs) × (exprs_of r.0 ≡ keep_exprs es) × ((f : Exprs → Span → Goal) → Leads (listed f) ts (f es r.1) us)
AreListedTaken ts (Err fault) us = (f : Exprs → Span → Goal) → Fails (listed f) ts fault

-- the rest of a target, whose name `x` stands at `a`
abbrev pub IsTargetTaken : Name → Span → List Token → Result (code.Kept code_target.Target × Span) ParseFault → List Token → Type 0
IsTargetTaken x a ts (Ok r) us = (t : Target) × (target_of r.0 ≡ keep_target t) × ((f : Target → Span → Goal) → Leads (target_goal x a f) ts (f t r.1) us)
IsTargetTaken x a ts (Err fault) us = (f : Target → Span → Goal) → Fails (target_goal x a f) ts fault

-- ---- a statement whose goal is given, with its last token's place

abbrev pub StmtGoal : Type 0
StmtGoal = (Stmt → Span → Goal) → Goal

abbrev pub IsStmtTaken : StmtGoal → List Token → Result (code.Kept code_stmt.Stmt × Span) ParseFault → List Token → Type 0
IsStmtTaken x ts (Ok r) us = (s : Stmt) × (stmt_of r.0 ≡ keep_stmt s) × ((f : Stmt → Span → Goal) → Leads (x f) ts (f s r.1) us)
IsStmtTaken x ts (Err fault) us = (f : Stmt → Span → Goal) → Fails (x f) ts fault

-- the right side of an assignment, through `;`
abbrev pub set_goal : Target → Span → SetOp → (Stmt → Span → Goal) → Goal
set_goal x v o f = expr (λ e w. ends_statement f (λ to. placed.set x o e (record { start = v.start; end = to })) w)

-- `( expr )`
abbrev pub IsConditionTaken : List Token → Result (code.Kept code_expr.Expr) ParseFault → List Token → Type 0
IsConditionTaken ts (Ok r) us = (e : Expr) × (expr_of r ≡ keep_expr e) × ((f : Expr → Goal) → Leads (takes round_open (λ b. expr (λ e w. takes round_close (λ c. f e)))) ts (f e) us)
IsConditionTaken ts (Err fault) us = (f : Expr → Goal) → Fails (takes round_open (λ b. expr (λ e w. takes round_close (λ c. f e)))) ts fault

-- the arguments of a call, through `)`
abbrev pub AreArgumentsTaken : List Token → Result (code.Kept (List code_expr.Expr)) ParseFault → List Token → Type 0
AreArgumentsTaken ts (Ok r) us = (es : Exprs) × (exprs_of r ≡ keep_exprs es) × ((f : Exprs → Goal) → Leads (may round_close (λ y. f no_exprs) (listed (λ es y. f es))) ts (f es) us)
AreArgumentsTaken ts (Err fault) us = (f : Exprs → Goal) → Fails (may round_close (λ y. f no_exprs) (listed (λ es y. f es))) ts fault

-- ---- an assignment or a step that ends at a place which comes later

abbrev pub simple_until : Simple → ℕ → Kept Stmt
simple_until (v.Set t o e start) to = node_of start (both (λ x y. placed.set x o y (record { start = start; end = to })) (target_of t) (expr_of e))
simple_until (v.Step t up start) to = node_of start (one (λ x. placed.step x up (record { start = start; end = to })) (target_of t))

abbrev pub SimpleGoal : Type 0
SimpleGoal = ((ℕ → Stmt) → Span → Goal) → Goal

abbrev pub IsSimpleTaken : SimpleGoal → List Token → Result (Simple × Span) ParseFault → List Token → Type 0
IsSimpleTaken x ts (Ok r) us = (s : ℕ → Stmt) × ((to : ℕ) → simple_until r.0 to ≡ keep_stmt (s to)) × ((f : (ℕ → Stmt) → Span → Goal) → Leads (x f) ts (f s r.1) us)
IsSimpleTaken x ts (Err fault) us = (f : (ℕ → Stmt) → Span → Goal) → Fails (x f) ts fault
