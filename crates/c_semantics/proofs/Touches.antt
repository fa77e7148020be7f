-- What holds of each name that statements use, in the scope where they use it.
use Rattle.std.proofs.Common.{ℕ, zero, suc, List, ◌∷◌, Option, Some, None, Bool, true, false, ℤ}
use Rattle.std.specs.Prelude.{if◌then◌else◌}
use Rattle.c_tree.specs.Bare.{Name, Expr, num, read, item, un, bin, cond, cast, Exprs, no_exprs, more_exprs, Target, target, Stmt, decl, set, step, print, input, if_, if_else, while_, do_, for_, block, break_, continue_, empty, omp, call, Stmts, no_stmts, more_stmts, head, MaybeStmt, no_stmt, a_stmt}
use Rattle.c_tree.specs.declared.tree.Ty.{Ty}
use Rattle.c_tree.specs.declared.tree.BinOp.{BinOp}
use Rattle.c_tree.specs.declared.tree.SetOp.TheVariants.{Plain}
use Rattle.c_semantics.specs.Meaning.Expressions.{Define}
use Rattle.c_semantics.specs.Loops.CanonicalForm.{Canonical, Init, Test, init, test, test_from, turned, is_read, with_step, with_test, with_init, increment, is_step_for, canonical}
use Rattle.c_semantics.specs.Loops.Directives.{plan_of}
use Rattle.c_semantics.specs.Loops.Need.{loops_asked}
use Rattle.c_semantics.specs.Laws.Names.{Names, NamesEach, NamesIf, NamesIn, Uses, UsesAll, UsesIf}
use Rattle.c_semantics.specs.Meaning.FileVariables.{scope_after, scope_in, scope_with}

-- ---- heads

-- a variable that the head declares is none that was there
abbrev pub VarNames : (Name → Type 0) → Option Ty → Name → Type 0
VarNames P None x = P x
VarNames P (Some t) x = Unit {0}

abbrev pub LoopNames : (Name → Type 0) → Option Canonical → Type 0
LoopNames P None = Unit {0}
LoopNames P (Some c) = VarNames P c.ty c.var × Names P c.lb × Names P c.ub

abbrev InitNames : (Name → Type 0) → Option Init → Type 0
InitNames P None = Unit {0}
InitNames P (Some i) = VarNames P i.ty i.var × Names P i.lb

abbrev TestNames : (Name → Type 0) → Option Test → Type 0
TestNames P None = Unit {0}
TestNames P (Some t) = Names P t.ub

module _ (P C : Name → Type 0) where
  init_names : (i : MaybeStmt) → UsesIf P C i → InitNames P (init i)
  init_names (a_stmt (decl t y (Some e))) h = (tt, h.1)
  init_names (a_stmt (set (target y no_exprs) Plain e)) h = (h.0.0, h.1)
  init_names _ h = tt

  from_names : (l r : Bool) (o : BinOp) (o' : Option BinOp) (a b : Expr) → Names P a → Names P b → TestNames P (test_from l r o o' a b)
  from_names true r o (Some o') a b ha hb = hb
  from_names false true o (Some o') a b ha hb = ha
  from_names _ _ o o' a b ha hb = tt

  test_names : (y : Name) (e : Option Expr) → NamesIf P e → TestNames P (test y e)
  test_names y (Some (bin o a b)) h = from_names (is_read y a) (is_read y b) o (turned o) a b h.0 h.1
  test_names y _ h = tt

  step_names : (i : Init) (t : Test) (o : Option ℤ) → InitNames P (Some i) → Names P t.ub → LoopNames P (with_step i t o)
  step_names i t None hi ht = tt
  step_names i t (Some z) hi ht = by (is_step_for t.op z)
    where
      by : (b : Bool) → LoopNames P (if b then Some (record { var = i.var; ty = i.ty; lb = i.lb; ub = t.ub; test = t.op; step = z }) else None)
      by true = (hi.0, hi.1, ht)
      by false = tt

  tested_names : (ds : List Define) (m : MaybeStmt) (i : Init) (t : Option Test) → InitNames P (Some i) → TestNames P t → LoopNames P (with_test ds m i t)
  tested_names ds m i None hi ht = tt
  tested_names ds m i (Some t) hi ht = step_names i t (increment ds i.var m) hi ht

  begun_names : (ds : List Define) (e : Option Expr) (m : MaybeStmt) (i : Option Init) → InitNames P i → NamesIf P e → LoopNames P (with_init ds e m i)
  begun_names ds e m None hi h = tt
  begun_names ds e m (Some i) hi h = tested_names ds m i (test i.var e) hi (test_names i.var e h)

  loop_names : (ds : List Define) (i : MaybeStmt) (e : Option Expr) (m : MaybeStmt) → UsesIf P C i → NamesIf P e → LoopNames P (canonical ds (head i e m))
  loop_names ds i e m hi h = begun_names ds e m (init i) (init_names i hi) h

-- ---- statements

abbrev pub Below : ℕ → (A B : Type 0) → Type 0
Below zero A B = A
Below (suc m) A B = B

module _ (ds : List Define) (P : List Name → Name → Type 0) (C : Name → Type 0) where
  abbrev mutual
    -- P holds of each name that is used in a scope, and C of each function that is called; the bounds of a construct's
    -- loops are in the scope of the construct
    pub Touches : List Name → Stmt → Type 0
    Touches h (decl t y e) = NamesIf (P (y ∷ h)) e
    Touches h (set t op e) = NamesIn (P h) t × Names (P h) e
    Touches h (step t up) = NamesIn (P h) t
    Touches h (print e) = Names (P h) e
    Touches h (input t) = NamesIn (P h) t
    Touches h (if_ e a) = Names (P h) e × TouchesAll h a
    Touches h (if_else e a b) = Names (P h) e × TouchesAll h a × TouchesAll h b
    Touches h (while_ e a) = Names (P h) e × TouchesAll h a
    Touches h (do_ a e) = TouchesAll h a × Names (P h) e
    Touches h (for_ (head i e next) a) = TouchesIf h i × NamesIf (P (scope_in i h)) e × TouchesIf (scope_in i h) next × TouchesAll (scope_in i h) a
    Touches h (block a) = TouchesAll h a
    Touches h (omp d a) = TouchesNests h h (loops_asked (plan_of ds d) 0) a
    Touches h (call f es) = C f × NamesEach (P h) es
    Touches h _ = Unit {0}

    pub TouchesAll : List Name → Stmts → Type 0
    TouchesAll h no_stmts = Unit {0}
    TouchesAll h (more_stmts a as') = Touches h a × TouchesAll (scope_after a h) as'

    pub TouchesIf : List Name → MaybeStmt → Type 0
    TouchesIf h no_stmt = Unit {0}
    TouchesIf h (a_stmt a) = Touches h a

    pub TouchesNest : (h b : List Name) → ℕ → Stmt → Type 0
    TouchesNest h b zero _ = Unit {0}
    TouchesNest h b (suc m) (for_ (head i e next) a) =
        LoopNames (P h) (canonical ds (head i e next)) ×
        Below m (TouchesAll (scope_with (canonical ds (head i e next)) b) a) (TouchesNests h (scope_with (canonical ds (head i e next)) b) m a)
    TouchesNest h b (suc m) (block a) = TouchesNests h b (suc m) a
    TouchesNest h b (suc m) (omp d a) = TouchesNests h b (loops_asked (plan_of ds d) (suc m)) a
    TouchesNest h b (suc m) _ = Unit {0}

    pub TouchesNests : (h b : List Name) → ℕ → Stmts → Type 0
    TouchesNests h b m no_stmts = Unit {0}
    TouchesNests h b m (more_stmts a as') = TouchesNest h b m a × TouchesNests h b m as'

-- ---- from what is named anywhere

module _ (Q : Name → Type 0) where
  module _ (R : Name → Type 0) (map : (y : Name) → Q y → R y) where
    mutual
      names_map : (e : Expr) → Names Q e → Names R e
      names_map (num k t) h = tt
      names_map (read y) h = map y h
      names_map (item y es) h = (map y h.0, each_map es h.1)
      names_map (un op a) h = names_map a h
      names_map (bin op a b) h = (names_map a h.0, names_map b h.1)
      names_map (cond a b c) h = (names_map a h.0, names_map b h.1, names_map c h.2)
      names_map (cast t a) h = names_map a h

      each_map : (es : Exprs) → NamesEach Q es → NamesEach R es
      each_map no_exprs h = tt
      each_map (more_exprs e es) h = (names_map e h.0, each_map es h.1)

    if_map : (e : Option Expr) → NamesIf Q e → NamesIf R e
    if_map None h = tt
    if_map (Some e) h = names_map e h

    target_map : (t : Target) → NamesIn Q t → NamesIn R t
    target_map (target y es) h = (map y h.0, each_map es h.1)

    var_map : (t : Option Ty) (x : Name) → VarNames Q t x → VarNames R t x
    var_map None x h = map x h
    var_map (Some t) x h = tt

    loop_map : (c : Option Canonical) → LoopNames Q c → LoopNames R c
    loop_map None h = tt
    loop_map (Some c) h = (var_map c.ty c.var h.0, names_map c.lb h.1, names_map c.ub h.2)

  module _ (ds : List Define) (P : List Name → Name → Type 0) (C D : Name → Type 0) (map : (h : List Name) (y : Name) → Q y → P h y) (calls : (f : Name) → D f → C f) where
    below : (m : ℕ) {A B : Type 0} → A → B → Below m A B
    below zero a b = a
    below (suc m) a b = b

    mutual
      pub uses-touches : (h : List Name) (a : Stmt) → Uses Q D a → Touches ds P C h a
      uses-touches h (decl t y e) u = if_map (P (y ∷ h)) (map (y ∷ h)) e u.1
      uses-touches h (set t op e) u = (target_map (P h) (map h) t u.0, names_map (P h) (map h) e u.1)
      uses-touches h (step t up) u = target_map (P h) (map h) t u
      uses-touches h (print e) u = names_map (P h) (map h) e u
      uses-touches h (input t) u = target_map (P h) (map h) t u
      uses-touches h (if_ e a) u = (names_map (P h) (map h) e u.0, list_touches h a u.1)
      uses-touches h (if_else e a b) u = (names_map (P h) (map h) e u.0, list_touches h a u.1, list_touches h b u.2)
      uses-touches h (while_ e a) u = (names_map (P h) (map h) e u.0, list_touches h a u.1)
      uses-touches h (do_ a e) u = (list_touches h a u.0, names_map (P h) (map h) e u.1)
      uses-touches h (for_ (head i e next) a) u =
          (maybe_touches h i u.0, if_map (P (scope_in i h)) (map (scope_in i h)) e u.1, maybe_touches (scope_in i h) next u.2, list_touches (scope_in i h) a u.3)
      uses-touches h (block a) u = list_touches h a u
      uses-touches h break_ u = tt
      uses-touches h continue_ u = tt
      uses-touches h empty u = tt
      uses-touches h (omp d a) u = nests_touch h h (loops_asked (plan_of ds d) 0) a u
      uses-touches h (call f es) u = (calls f u.0, each_map (P h) (map h) es u.1)

      list_touches : (h : List Name) (as' : Stmts) → UsesAll Q D as' → TouchesAll ds P C h as'
      list_touches h no_stmts u = tt
      list_touches h (more_stmts a as') u = (uses-touches h a u.0, list_touches (scope_after a h) as' u.1)

      maybe_touches : (h : List Name) (a : MaybeStmt) → UsesIf Q D a → TouchesIf ds P C h a
      maybe_touches h no_stmt u = tt
      maybe_touches h (a_stmt a) u = uses-touches h a u

      nest_touches : (h b : List Name) (m : ℕ) (a : Stmt) → Uses Q D a → TouchesNest ds P C h b m a
      nest_touches h b (suc m) (for_ (head i e next) a) u =
          let c = canonical ds (head i e next) in
          (loop_map (P h) (map h) c (loop_names Q D ds i e next u.0 u.1), below m (list_touches (scope_with c b) a u.3) (nests_touch h (scope_with c b) m a u.3))
      nest_touches h b (suc m) (block a) u = nests_touch h b (suc m) a u
      nest_touches h b (suc m) (omp d a) u = nests_touch h b (loops_asked (plan_of ds d) (suc m)) a u
      nest_touches h b zero _ u = tt
      nest_touches h b (suc m) _ u = tt

      nests_touch : (h b : List Name) (m : ℕ) (as' : Stmts) → UsesAll Q D as' → TouchesNests ds P C h b m as'
      nests_touch h b m no_stmts u = tt
      nests_touch h b m (more_stmts a as') u = (nest_touches h b m a u.0, nests_touch h b m as' u.1)
