-- The parts of a `for` head, as they are taken from the tokens that are left.
use Rattle.std.specs.Prelude.{◌≡◌, ℕ, List, Option, Some, None, Result, Ok, Err}
use Rattle.c_tree.specs.Placed.{Expr, MaybeStmt, no_stmt, a_stmt, Head, head}
use Rattle.c_tree.specs.declared.tree.Ty.{Ty}
use Rattle.c_tree.specs.declared.tree.Expr as code_expr
use Rattle.c_tree.specs.declared.tree.Stmt as code_stmt
use Rattle.c_tree.specs.declared.tree.ForHead as code_head
use Rattle.c_lexer.specs.declared.token.Token.{Token}
use Rattle.pragma_grammar.specs.declared.phrase.ParseFault.{ParseFault}
use Rattle.pragma_grammar.specs.declared.directive_kept.Kept as code
use Rattle.pragma_grammar.specs.declared.directive_kept.Kept.TheVariants.{Whole, Deep}
use Rattle.c_grammar.specs.Goals.{Goal, takes, may, at, expr, simple, init, round_open, round_close, semicolon, long_rest, init_declares}
use Rattle.c_parser.specs.Comes.{Leads, Fails}
use Rattle.c_parser.specs.Kept.{option_of, part_of, head_of, keep_option, keep_part, keep_head}

-- a part that is there
abbrev pub kept_some : {X : Type 0} → code.Kept X → code.Kept (Option X)
kept_some (Whole tree height) = Whole (Some tree) height
kept_some (Deep place) = Deep place

-- the rest of `long long` or `long long int`
abbrev pub IsLongTaken : List Token → Result (Unit {0}) ParseFault → List Token → Type 0
IsLongTaken ts (Ok r) us = (g : Goal) → Leads (long_rest g) ts g us
IsLongTaken ts (Err fault) us = (g : Goal) → Fails (long_rest g) ts fault

-- the declaration of a loop variable, through `;`
abbrev pub IsDeclaredTaken : Ty → ℕ → List Token → Result (code.Kept (Option code_stmt.Stmt)) ParseFault → List Token → Type 0
IsDeclaredTaken ty from ts (Ok r) us = (s : MaybeStmt) × (part_of r ≡ keep_part s) × ((f : MaybeStmt → Goal) → Leads (init_declares ty from f) ts (f s) us)
IsDeclaredTaken ty from ts (Err fault) us = (f : MaybeStmt → Goal) → Fails (init_declares ty from f) ts fault

abbrev pub IsInitTaken : List Token → Result (code.Kept (Option code_stmt.Stmt)) ParseFault → List Token → Type 0
IsInitTaken ts (Ok r) us = (s : MaybeStmt) × (part_of r ≡ keep_part s) × ((f : MaybeStmt → Goal) → Leads (init f) ts (f s) us)
IsInitTaken ts (Err fault) us = (f : MaybeStmt → Goal) → Fails (init f) ts fault

-- the second part, through `;`
abbrev pub test_part : (Option Expr → Goal) → Goal
test_part f = may semicolon (λ y. f None) (expr (λ e w. takes semicolon (λ y. f (Some e))))

abbrev pub IsTestTaken : List Token → Result (code.Kept (Option code_expr.Expr)) ParseFault → List Token → Type 0
IsTestTaken ts (Ok r) us = (e : Option Expr) × (option_of r ≡ keep_option e) × ((f : Option Expr → Goal) → Leads (test_part f) ts (f e) us)
IsTestTaken ts (Err fault) us = (f : Option Expr → Goal) → Fails (test_part f) ts fault

-- the third one, through `)`
abbrev pub next_part : (MaybeStmt → Goal) → Goal
next_part f = may round_close (λ c. f no_stmt) (simple (λ s y. takes round_close (λ c. f (a_stmt (s y.end)))))

abbrev pub IsNextTaken : List Token → Result (code.Kept (Option code_stmt.Stmt)) ParseFault → List Token → Type 0
IsNextTaken ts (Ok r) us = (s : MaybeStmt) × (part_of r ≡ keep_part s) × ((f : MaybeStmt → Goal) → Leads (next_part f) ts (f s) us)
IsNextTaken ts (Err fault) us = (f : MaybeStmt → Goal) → Fails (next_part f) ts fault

-- all three, in their parentheses
abbrev pub head_goal : (Head → Goal) → Goal
head_goal f = takes round_open (λ b. at (λ i. init (λ s. at (λ j. test_part (λ e. at (λ n. next_part (λ m. f (head s i e j m n))))))))

abbrev pub IsHeadTaken : List Token → Result (code.Kept code_head.ForHead) ParseFault → List Token → Type 0
IsHeadTaken ts (Ok r) us = (h : Head) × (head_of r ≡ keep_head h) × ((f : Head → Goal) → Leads (head_goal f) ts (f h) us)
IsHeadTaken ts (Err fault) us = (f : Head → Goal) → Fails (head_goal f) ts fault
