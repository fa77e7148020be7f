-- A construct has the same forest where the names that its bounds use look the same.
use Rattle.std.proofs.Common.{◌≡◌, refl, ap, ℕ, zero, suc, ◌+◌, List, Option, Some, None, Ok}
use Rattle.std.specs.Prelude.{unwrap_or}
use Rattle.c_tree.specs.Bare.{Name, Stmt, for_, block, omp, Stmts, no_stmts, more_stmts, head, Directive}
use Rattle.c_tree.specs.declared.tree.Ty.{Ty}
use Rattle.c_semantics.specs.Meaning.State.{State, look}
use Rattle.c_tree.specs.Arithmetic.{and_then}
use Rattle.c_semantics.specs.Meaning.Expressions.{Define, name_type}
use Rattle.c_semantics.specs.Loops.CanonicalForm.{Canonical, canonical}
use Rattle.c_semantics.specs.Loops.TripCount.{loop_type}
use Rattle.c_semantics.specs.Loops.Transformations.{apply_plan}
use Rattle.c_semantics.specs.Loops.Directives.{plan_of}
use Rattle.c_semantics.specs.Loops.Forest.{enter, bodies, nest, nest_all, forest}
use Rattle.c_semantics.specs.Meaning.FileVariables.{scope_with}
use Rattle.c_semantics.proofs.Evals.{eval_same}
use Rattle.c_semantics.proofs.Touches.{VarNames, LoopNames, Touches, TouchesNest, TouchesNests}

module _ (ds : List Define) (P : List Name → Name → Type 0) (C : Name → Type 0) (h : List Name) (s t : State) (looks : (x : Name) → P h x → look t x ≡ look s x) where
  pub loop_type_same : (c : Canonical) → VarNames (P h) c.ty c.var → loop_type ds t c ≡ loop_type ds s c
  loop_type_same c g = by c.ty g
    where
      by : (o : Option Ty) → VarNames (P h) o c.var → unwrap_or o (name_type (look t c.var) ds c.var) ≡ unwrap_or o (name_type (look s c.var) ds c.var)
      by None g = ap (λ o. name_type o ds c.var) (looks c.var g)
      by (Some u) g = refl

  enter_same : (o : Option Canonical) → LoopNames (P h) o → enter ds t o ≡ enter ds s o
  enter_same None g = refl
  enter_same (Some c) g = rw (eval_same ds (P h) s t looks c.lb g.1, eval_same ds (P h) s t looks c.ub g.2, loop_type_same c g.0) refl

  mutual
    nest_same : (b : List Name) (a : Stmt) (j : ℕ) → TouchesNest ds P C h b j a → (i : ℕ) → nest apply_plan ds t i j a ≡ nest apply_plan ds s i j a
    nest_same b (for_ (head o e next) a) (suc zero) g i = rw (enter_same (canonical ds (head o e next)) g.0) refl
    nest_same b (for_ (head o e next) a) (suc (suc j)) g i =
        rw (enter_same (canonical ds (head o e next)) g.0, nests_same (scope_with (canonical ds (head o e next)) b) a (suc j) g.1 i) refl
    nest_same b (block a) (suc j) g i = nests_same b a (suc j) g i
    nest_same b (omp d a) (suc j) g i = ap (λ r. and_then r (λ ts. Ok (apply_plan (plan_of ds d) ts))) (nests_same b a _ g i)
    nest_same b _ zero g i = refl
    nest_same b _ (suc j) g i = refl

    nests_same : (b : List Name) (as' : Stmts) (j : ℕ) → TouchesNests ds P C h b j as' → (i : ℕ) → nest_all apply_plan ds t i j as' ≡ nest_all apply_plan ds s i j as'
    nests_same b no_stmts j g i = refl
    nests_same b (more_stmts a as') j g i = rw (nest_same b a j g.0 i, nests_same b as' j g.1 (i + bodies ds j a)) refl

  pub forest_same : (d : Directive) (a : Stmts) → Touches ds P C h (omp d a) → forest ds t d a ≡ forest ds s d a
  forest_same d a g = ap (λ r. and_then r (λ ts. Ok (apply_plan (plan_of ds d) ts))) (nests_same h a _ g 0)
