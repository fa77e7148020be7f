-- The bounds of a canonical loop are no higher than its head.
use Rattle.std.proofs.Common.{◌≤◌, ℕ, Option, Some, None, Bool, true, false, List, ℤ, arith}
use Rattle.std.specs.Prelude.{if◌then◌else◌}
use Rattle.std.proofs.Math.Nat.{le-max_left, le-max_right}
use Rattle.c_tree.specs.Bare.{Name, Expr, num, read, item, un, bin, cond, cast, no_exprs, more_exprs, target, decl, set, step, print, input, if_, if_else, while_, do_, for_, block, break_, continue_, empty, omp, call, head, MaybeStmt, no_stmt, a_stmt}
use Rattle.c_tree.specs.Height.{expr_height, option_height, part_height}
use Rattle.c_tree.specs.declared.tree.BinOp.{BinOp}
use Rattle.c_tree.specs.declared.tree.SetOp.{SetOp}
use Rattle.c_tree.specs.declared.tree.SetOp.TheVariants.{Plain, Add, Sub, Mul, Div, Rem}
use Rattle.c_semantics.specs.Meaning.Expressions.{Define}
use Rattle.c_semantics.specs.Loops.CanonicalForm.{Canonical, Init, Test, canonical, init, test, test_from, turned, is_read, increment, is_step_for, with_step, with_test, with_init}

module _ (k : ℕ) where
  pub record LowBounds (c : Canonical) : Type 0 where
    pub lb : expr_height c.lb ≤ k
    pub ub : expr_height c.ub ≤ k

  abbrev pub LowIf : Option Canonical → Type 0
  LowIf None = Unit {0}
  LowIf (Some c) = LowBounds c

  abbrev InitLow : Option Init → Type 0
  InitLow None = Unit {0}
  InitLow (Some i) = expr_height i.lb ≤ k

  abbrev TestLow : Option Test → Type 0
  TestLow None = Unit {0}
  TestLow (Some t) = expr_height t.ub ≤ k

  set_low : (x : Name) (o : SetOp) (e : Expr) → expr_height e ≤ k → InitLow (init (a_stmt (set (target x no_exprs) o e)))
  set_low x Plain e h = h
  set_low x Add e h = tt
  set_low x Sub e h = tt
  set_low x Mul e h = tt
  set_low x Div e h = tt
  set_low x Rem e h = tt

  init_low : (i : MaybeStmt) → part_height i ≤ k → InitLow (init i)
  init_low no_stmt h = tt
  init_low (a_stmt (decl t x None)) h = tt
  init_low (a_stmt (decl t x (Some e))) h = omega arith
  init_low (a_stmt (set (target x no_exprs) o e)) h = set_low x o e (let m = le-max_right 0 (expr_height e) in omega arith)
  init_low (a_stmt (set (target x (more_exprs f fs)) o e)) h = tt
  init_low (a_stmt (step t up)) h = tt
  init_low (a_stmt (print e)) h = tt
  init_low (a_stmt (input t)) h = tt
  init_low (a_stmt (if_ e a)) h = tt
  init_low (a_stmt (if_else e a b)) h = tt
  init_low (a_stmt (while_ e a)) h = tt
  init_low (a_stmt (do_ a e)) h = tt
  init_low (a_stmt (for_ g a)) h = tt
  init_low (a_stmt (block a)) h = tt
  init_low (a_stmt break_) h = tt
  init_low (a_stmt continue_) h = tt
  init_low (a_stmt empty) h = tt
  init_low (a_stmt (omp d a)) h = tt
  init_low (a_stmt (call f es)) h = tt

  sides_low : (l r : Bool) (o : BinOp) (t : Option BinOp) (a b : Expr) → expr_height a ≤ k → expr_height b ≤ k → TestLow (test_from l r o t a b)
  sides_low true r o (Some u) a b h g = g
  sides_low true true o None a b h g = tt
  sides_low true false o None a b h g = tt
  sides_low false true o (Some u) a b h g = h
  sides_low false true o None a b h g = tt
  sides_low false false o (Some u) a b h g = tt
  sides_low false false o None a b h g = tt

  test_low : (x : Name) (e : Option Expr) → option_height e ≤ k → TestLow (test x e)
  test_low x None h = tt
  test_low x (Some (num n t)) h = tt
  test_low x (Some (read y)) h = tt
  test_low x (Some (item y es)) h = tt
  test_low x (Some (un o a)) h = tt
  test_low x (Some (bin o a b)) h =
      let l = le-max_left (expr_height a) (expr_height b) in
      let r = le-max_right (expr_height a) (expr_height b) in
      sides_low (is_read x a) (is_read x b) o (turned o) a b (omega arith) (omega arith)
  test_low x (Some (cond a b c)) h = tt
  test_low x (Some (cast t a)) h = tt

  step_low : (i : Init) (t : Test) (z : Option ℤ) → expr_height i.lb ≤ k → expr_height t.ub ≤ k → LowIf (with_step i t z)
  step_low i t None h g = tt
  step_low i t (Some z) h g = by (is_step_for t.op z)
    where
      by : (b : Bool) → LowIf (if b then Some (record { var = i.var; ty = i.ty; lb = i.lb; ub = t.ub; test = t.op; step = z }) else None)
      by true = record { lb = h; ub = g }
      by false = tt

  tested_low : (ds : List Define) (m : MaybeStmt) (i : Init) (t : Option Test) → expr_height i.lb ≤ k → TestLow t → LowIf (with_test ds m i t)
  tested_low ds m i None h g = tt
  tested_low ds m i (Some t) h g = step_low i t (increment ds i.var m) h g

  begun_low : (ds : List Define) (e : Option Expr) (m : MaybeStmt) (i : Option Init) → option_height e ≤ k → InitLow i → LowIf (with_init ds e m i)
  begun_low ds e m None g h = tt
  begun_low ds e m (Some i) g h = tested_low ds m i (test i.var e) h (test_low i.var e g)

  pub canonical_low : (ds : List Define) (i : MaybeStmt) (e : Option Expr) (next : MaybeStmt) → part_height i ≤ k → option_height e ≤ k → LowIf (canonical ds (head i e next))
  canonical_low ds i e next h g = begun_low ds e next (init i) g (init_low i h)
