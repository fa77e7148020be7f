-- What the interpreter counts on of each part of a program: each literal and each define has a value that its type holds,
-- and there is no directive.
use Rattle.std.specs.Prelude.{[], ◌∷◌}
use Rattle.c_tree.specs.Bare.{Stmt, decl, set, step, print, input, if_, if_else, while_, do_, for_, block, omp, call, Stmts, no_stmts, more_stmts, MaybeStmt, no_stmt, a_stmt, Head, head, Top, define, global, function, main, Program}
use Rattle.c_tree.specs.Constants.{IsHeld}
use Rattle.c_meaning.specs.Held.{HeldExpr, HeldExprs, HeldOption, HeldTarget}

abbrev mutual
  pub RunnableStmt : Stmt → Type 0
  RunnableStmt (decl t x init) = HeldOption init
  RunnableStmt (set t op e) = HeldTarget t × HeldExpr e
  RunnableStmt (step t up) = HeldTarget t
  RunnableStmt (print e) = HeldExpr e
  RunnableStmt (input t) = HeldTarget t
  RunnableStmt (if_ e a) = HeldExpr e × RunnableStmts a
  RunnableStmt (if_else e a b) = HeldExpr e × RunnableStmts a × RunnableStmts b
  RunnableStmt (while_ e a) = HeldExpr e × RunnableStmts a
  RunnableStmt (do_ a e) = RunnableStmts a × HeldExpr e
  RunnableStmt (for_ h a) = RunnableHead h × RunnableStmts a
  RunnableStmt (block a) = RunnableStmts a
  RunnableStmt (omp d a) = ⊥
  RunnableStmt (call x es) = HeldExprs es
  RunnableStmt _ = Unit {0}

  pub RunnableStmts : Stmts → Type 0
  RunnableStmts no_stmts = Unit {0}
  RunnableStmts (more_stmts a as') = RunnableStmt a × RunnableStmts as'

  pub RunnablePart : MaybeStmt → Type 0
  RunnablePart no_stmt = Unit {0}
  RunnablePart (a_stmt a) = RunnableStmt a

  pub RunnableHead : Head → Type 0
  RunnableHead (head i e next) = RunnablePart i × HeldOption e × RunnablePart next

abbrev pub RunnableTop : Top → Type 0
RunnableTop (define x negative k t) = IsHeld t k
RunnableTop (global t x dims init) = HeldExprs dims × HeldOption init
RunnableTop (function x ps a) = RunnableStmts a
RunnableTop (main a) = RunnableStmts a
RunnableTop _ = Unit {0}

abbrev pub RunnableTops : Program → Type 0
RunnableTops [] = Unit {0}
RunnableTops (t ∷ ts) = RunnableTop t × RunnableTops ts
