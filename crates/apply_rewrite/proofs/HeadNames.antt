-- The variable and the bounds of a canonical loop have the names of its head.
use Rattle.std.proofs.Common.{Option, Some, None, Bool, true, false, List, ℤ}
use Rattle.std.specs.Prelude.{if◌then◌else◌}
use Rattle.c_tree.specs.Bare.{Name, Expr, num, read, item, un, bin, cond, cast, no_exprs, more_exprs, target, decl, set, step, print, input, if_, if_else, while_, do_, for_, block, break_, continue_, empty, omp, call, head, MaybeStmt, no_stmt, a_stmt}
use Rattle.c_tree.specs.declared.tree.BinOp.{BinOp}
use Rattle.c_tree.specs.declared.tree.SetOp.{SetOp}
use Rattle.c_tree.specs.declared.tree.SetOp.TheVariants.{Plain, Add, Sub, Mul, Div, Rem}
use Rattle.c_semantics.specs.Laws.Names.{Names, NamesIf, UsesIf}
use Rattle.c_semantics.specs.Meaning.Expressions.{Define}
use Rattle.c_semantics.specs.Loops.CanonicalForm.{Canonical, Init, Test, canonical, init, test, test_from, turned, is_read, increment, is_step_for, with_step, with_test, with_init}
use Rattle.apply_rewrite.proofs.NamesMore.{AnyCall}

module _ (P : Name → Type 0) where
  -- of the parts of a loop
  pub record Named (c : Canonical) : Type 0 where
    pub var : P c.var
    pub lb : Names P c.lb
    pub ub : Names P c.ub

  abbrev pub NamedIf : Option Canonical → Type 0
  NamedIf None = Unit {0}
  NamedIf (Some c) = Named c

  abbrev InitNamed : Option Init → Type 0
  InitNamed None = Unit {0}
  InitNamed (Some i) = P i.var × Names P i.lb

  abbrev TestNamed : Option Test → Type 0
  TestNamed None = Unit {0}
  TestNamed (Some t) = Names P t.ub

  set_named : (x : Name) (o : SetOp) (e : Expr) → P x → Names P e → InitNamed (init (a_stmt (set (target x no_exprs) o e)))
  set_named x Plain e h k = (h, k)
  set_named x Add e h k = tt
  set_named x Sub e h k = tt
  set_named x Mul e h k = tt
  set_named x Div e h k = tt
  set_named x Rem e h k = tt

  init_named : (i : MaybeStmt) → UsesIf P AnyCall i → InitNamed (init i)
  init_named no_stmt h = tt
  init_named (a_stmt (decl t x None)) h = tt
  init_named (a_stmt (decl t x (Some e))) h = (h.0, h.1)
  init_named (a_stmt (set (target x no_exprs) o e)) h = set_named x o e h.0.0 h.1
  init_named (a_stmt (set (target x (more_exprs f fs)) o e)) h = tt
  init_named (a_stmt (step t up)) h = tt
  init_named (a_stmt (print e)) h = tt
  init_named (a_stmt (input t)) h = tt
  init_named (a_stmt (if_ e a)) h = tt
  init_named (a_stmt (if_else e a b)) h = tt
  init_named (a_stmt (while_ e a)) h = tt
  init_named (a_stmt (do_ a e)) h = tt
  init_named (a_stmt (for_ g a)) h = tt
  init_named (a_stmt (block a)) h = tt
  init_named (a_stmt break_) h = tt
  init_named (a_stmt continue_) h = tt
  init_named (a_stmt empty) h = tt
  init_named (a_stmt (omp d a)) h = tt
  init_named (a_stmt (call f es)) h = tt

  sides_named : (l r : Bool) (o : BinOp) (t : Option BinOp) (a b : Expr) → Names P a → Names P b → TestNamed (test_from l r o t a b)
  sides_named true r o (Some u) a b h k = k
  sides_named true true o None a b h k = tt
  sides_named true false o None a b h k = tt
  sides_named false true o (Some u) a b h k = h
  sides_named false true o None a b h k = tt
  sides_named false false o (Some u) a b h k = tt
  sides_named false false o None a b h k = tt

  test_named : (x : Name) (e : Option Expr) → NamesIf P e → TestNamed (test x e)
  test_named x None h = tt
  test_named x (Some (num k t)) h = tt
  test_named x (Some (read y)) h = tt
  test_named x (Some (item y es)) h = tt
  test_named x (Some (un o a)) h = tt
  test_named x (Some (bin o a b)) h = sides_named (is_read x a) (is_read x b) o (turned o) a b h.0 h.1
  test_named x (Some (cond a b c)) h = tt
  test_named x (Some (cast t a)) h = tt

  step_named : (i : Init) (t : Test) (z : Option ℤ) → P i.var × Names P i.lb → Names P t.ub → NamedIf (with_step i t z)
  step_named i t None h k = tt
  step_named i t (Some z) h k = by (is_step_for t.op z)
    where
      by : (b : Bool) → NamedIf (if b then Some (record { var = i.var; ty = i.ty; lb = i.lb; ub = t.ub; test = t.op; step = z }) else None)
      by true = record { var = h.0; lb = h.1; ub = k }
      by false = tt

  tested_named : (ds : List Define) (m : MaybeStmt) (i : Init) (t : Option Test) → P i.var × Names P i.lb → TestNamed t → NamedIf (with_test ds m i t)
  tested_named ds m i None h k = tt
  tested_named ds m i (Some t) h k = step_named i t (increment ds i.var m) h k

  begun_named : (ds : List Define) (e : Option Expr) (m : MaybeStmt) (i : Option Init) → NamesIf P e → InitNamed i → NamedIf (with_init ds e m i)
  begun_named ds e m None k h = tt
  begun_named ds e m (Some i) k h = tested_named ds m i (test i.var e) h (test_named i.var e k)

  pub canonical_named : (ds : List Define) (i : MaybeStmt) (e : Option Expr) (next : MaybeStmt) → UsesIf P AnyCall i → NamesIf P e → NamedIf (canonical ds (head i e next))
  canonical_named ds i e next h k = begun_named ds e next (init i) k (init_named i h)
