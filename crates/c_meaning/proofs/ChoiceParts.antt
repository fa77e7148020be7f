-- The parts of an `if` are runnable, and smaller.
use Rattle.std.proofs.Common.{◌≡◌, ap, subst, ◌+◌, ◌≤◌, Option, Some, None, arith}
use Rattle.c_tree.specs.Bare.{Expr, Stmts}
use Rattle.c_meaning.specs.Held.{HeldExpr}
use Rattle.c_meaning.specs.Choices.{if_of}
use Rattle.c_meaning.specs.Runnable.{RunnableStmt, RunnableStmts}
use Rattle.c_meaning.specs.Sizes.{stmt_size, stmts_size}

pub choice_test : (e : Expr) (a : Stmts) (b : Option Stmts) → RunnableStmt (if_of e a b) → HeldExpr e
choice_test e a None h = h.0
choice_test e a (Some b) h = h.0

pub choice_yes : (e : Expr) (a : Stmts) (b : Option Stmts) → RunnableStmt (if_of e a b) → RunnableStmts a
choice_yes e a None h = h.1
choice_yes e a (Some b) h = h.1

pub choice_no : (e : Expr) (a : Stmts) (b : Option Stmts) (c : Stmts) → b ≡ Some c → RunnableStmt (if_of e a b) → RunnableStmts c
choice_no e a b c is h = let both = subst (λ d. RunnableStmt (if_of e a d)) is h in both.2

pub yes_smaller : (e : Expr) (a : Stmts) (b : Option Stmts) → stmts_size a + 9 ≤ stmt_size (if_of e a b)
yes_smaller e a None = omega arith
yes_smaller e a (Some b) = omega arith

pub no_smaller : (e : Expr) (a : Stmts) (b : Option Stmts) (c : Stmts) → b ≡ Some c → stmts_size c + 9 ≤ stmt_size (if_of e a b)
no_smaller e a b c is = let same : stmt_size (if_of e a b) ≡ stmts_size a + stmts_size c + 9 = ap (λ d. stmt_size (if_of e a d)) is in omega (arith, same)
