-- A program that is well formed and holds no directive is runnable.
use Rattle.std.proofs.Common.{◌≡◌, refl, [], ◌∷◌, Option, Some, None, Bool, true, false}
use Rattle.std.specs.Prelude.{◌&&◌}
use Rattle.c_tree.specs.Bare.{Expr, num, read, item, un, bin, cond, cast, Exprs, no_exprs, more_exprs, Target, target, Stmt, decl, set, step, print, input, if_, if_else, while_, do_, for_, block, break_, continue_, empty, omp, call, Stmts, no_stmts, more_stmts, MaybeStmt, no_stmt, a_stmt, head, Top, define, extern_, global, function, main, Program}
use Rattle.c_tree.specs.WellFormed.{WellFormedExpr, WellFormedExprs, WellFormedTarget, WellFormedOption, WellFormedInitial, WellFormedStmt, WellFormedStmts, WellFormedPart, WellFormedTop, WellFormedTops}
use Rattle.c_meaning.specs.Held.{HeldExpr, HeldExprs, HeldOption, HeldTarget}
use Rattle.c_meaning.specs.Plain.{is_plain_stmt, are_plain_stmts, is_plain_part, is_plain_top, is_plain}
use Rattle.c_meaning.specs.Runnable.{RunnableStmt, RunnableStmts, RunnablePart, RunnableTop, RunnableTops}

first_true : (a b : Bool) → a && b ≡ true → a ≡ true
first_true true b h = refl
first_true false b h = h

second_true : (a b : Bool) → a && b ≡ true → b ≡ true
second_true true b h = h
second_true false b h = absurd (cc)

-- ---- well-formed literals have values that their types hold

mutual
  held_expr : (e : Expr) → WellFormedExpr e → HeldExpr e
  held_expr (num k t) w = w
  held_expr (read x) w = tt
  held_expr (item x es) w = held_exprs es w.2
  held_expr (un op a) w = held_expr a w
  held_expr (bin op a b) w = (held_expr a w.0, held_expr b w.1)
  held_expr (cond a b c) w = (held_expr a w.0, held_expr b w.1, held_expr c w.2)
  held_expr (cast t a) w = held_expr a w

  held_exprs : (es : Exprs) → WellFormedExprs es → HeldExprs es
  held_exprs no_exprs w = tt
  held_exprs (more_exprs e es) w = (held_expr e w.0, held_exprs es w.1)

held_option : (o : Option Expr) → WellFormedOption o → HeldOption o
held_option None w = tt
held_option (Some e) w = held_expr e w

held_target : (t : Target) → WellFormedTarget t → HeldTarget t
held_target (target x es) w = held_exprs es w.1

mutual
  pub runnable_stmt : (a : Stmt) → WellFormedStmt a → is_plain_stmt a ≡ true → RunnableStmt a
  runnable_stmt (decl t x init) w h = held_option init w.1
  runnable_stmt (set t op e) w h = (held_target t w.0, held_expr e w.1)
  runnable_stmt (step t up) w h = held_target t w
  runnable_stmt (print e) w h = held_expr e w
  runnable_stmt (input t) w h = held_target t w
  runnable_stmt (if_ e a) w h = (held_expr e w.0, runnable_stmts a w.1 h)
  runnable_stmt (if_else e a b) w h = (held_expr e w.0, runnable_stmts a w.1 (first_true (are_plain_stmts a) (are_plain_stmts b) h), runnable_stmts b w.2 (second_true (are_plain_stmts a) (are_plain_stmts b) h))
  runnable_stmt (while_ e a) w h = (held_expr e w.0, runnable_stmts a w.1 h)
  runnable_stmt (do_ a e) w h = (runnable_stmts a w.0 h, held_expr e w.1)
  runnable_stmt (for_ (head i e next) a) w h =
      let parts = first_true (is_plain_part i && is_plain_part next) (are_plain_stmts a) h in
      ((runnable_part i w.0.1 (first_true (is_plain_part i) (is_plain_part next) parts), held_option e w.0.2, runnable_part next w.0.4 (second_true (is_plain_part i) (is_plain_part next) parts)), runnable_stmts a w.1 (second_true (is_plain_part i && is_plain_part next) (are_plain_stmts a) h))
  runnable_stmt (block a) w h = runnable_stmts a w h
  runnable_stmt break_ w h = tt
  runnable_stmt continue_ w h = tt
  runnable_stmt empty w h = tt
  runnable_stmt (omp d a) w h = absurd (cc)
  runnable_stmt (call x es) w h = held_exprs es w.1

  pub runnable_stmts : (a : Stmts) → WellFormedStmts a → are_plain_stmts a ≡ true → RunnableStmts a
  runnable_stmts no_stmts w h = tt
  runnable_stmts (more_stmts a as') w h = (runnable_stmt a w.0 (first_true (is_plain_stmt a) (are_plain_stmts as') h), runnable_stmts as' w.1 (second_true (is_plain_stmt a) (are_plain_stmts as') h))

  pub runnable_part : (a : MaybeStmt) → WellFormedPart a → is_plain_part a ≡ true → RunnablePart a
  runnable_part no_stmt w h = tt
  runnable_part (a_stmt a) w h = runnable_stmt a w h

initial_formed : (dims : Exprs) (init : Option Expr) → WellFormedInitial dims init → WellFormedOption init
initial_formed no_exprs init w = w
initial_formed (more_exprs e es) None w = tt
initial_formed (more_exprs e es) (Some f) w = absurd (cc)

pub runnable_top : (a : Top) → WellFormedTop a → is_plain_top a ≡ true → RunnableTop a
runnable_top (define x negative k t) w h = w.1
runnable_top (extern_ port) w h = tt
runnable_top (global t x dims init) w h = (held_exprs dims w.1, held_option init (initial_formed dims init w.2))
runnable_top (function x ps a) w h = runnable_stmts a w.2 h
runnable_top (main a) w h = runnable_stmts a w h

pub runnable_tops : (p : Program) → WellFormedTops p → is_plain p ≡ true → RunnableTops p
runnable_tops [] w h = tt
runnable_tops (t ∷ ts) w h = (runnable_top t w.0 (first_true (is_plain_top t) (is_plain ts) h), runnable_tops ts w.1 (second_true (is_plain_top t) (is_plain ts) h))
