-- What breaks no loop rule has no least breach, and a program without a directive breaks none.
use Rattle.std.proofs.Common.{◌≡◌, ℕ, zero, suc, Bool, true, false, List, [], ◌∷◌, Option, Some, None, sym, subst, if◌then◌else◌}
use Rattle.c_tree.specs.Placed.{Stmt, decl, set, step, print, input, if_, if_else, while_, do_, for_, block, break_, continue_, empty, omp, call, Stmts, no_stmts, more_stmts, directive, Top, define, extern_, global, function, main, Program}
use Rattle.c_tree.specs.Forget.{forget_top}
use Rattle.c_semantics.specs.Meaning.State.{State, nowhere}
use Rattle.c_semantics.specs.Meaning.Expressions.{Define}
use Rattle.c_semantics.specs.Meaning.FileVariables.{FunctionAccess, accesses_with, defines_with}
use Rattle.canonical_nests.specs.Weight.{scope_with}
use Rattle.canonical_nests.specs.LoopRules.BreachSets.{BreachSet, HasNone, least, or_else, has_some}
use Rattle.canonical_nests.specs.LoopRules.Programs.{stmt_directive, stmts_directive, top_directive, first_directive, stmt_breaches, stmts_breaches, top_breaches, breaches_from, nest_breaches, height_breaches, weight_breaches, breaches}
use Rattle.canonical_nests.specs.declared.rules.LoopBreach.{LoopBreach}
use Rattle.canonical_nests.proofs.BreachSets.{least_of_none}
use Rattle.translator.proofs.Plain.{both_none}

pub unbroken_loops : (s : BreachSet) (b : LoopBreach) → HasNone s → least s ≡ Some b → ⊥
unbroken_loops s b h e = let n = least_of_none s h in cc

-- ---- programs without a directive

module _ (ds : List Define) (fs : List FunctionAccess) where
  mutual
    stmt_unbroken : (s : State) (m : ℕ) (a : Stmt) → stmt_directive a ≡ None → HasNone (stmt_breaches ds fs s m a)
    stmt_unbroken s m (if_ e a span) without = stmts_unbroken _ _ a without
    stmt_unbroken s m (if_else e a b span) without = (stmts_unbroken _ _ a (both_none _ _ without).0, stmts_unbroken _ _ b (both_none _ _ without).1)
    stmt_unbroken s m (while_ e a span) without = stmts_unbroken _ _ a without
    stmt_unbroken s m (do_ a e span) without = stmts_unbroken _ _ a without
    stmt_unbroken s zero (for_ h a span) without = stmts_unbroken _ _ a without
    stmt_unbroken s (suc m) (for_ h a span) without = stmts_unbroken _ _ a without
    stmt_unbroken s m (block a span) without = stmts_unbroken _ _ a without
    stmt_unbroken s m (omp (directive k cs at) a span) without = cc
    stmt_unbroken s m (decl ty x at init span) without = tt
    stmt_unbroken s m (set t o e span) without = tt
    stmt_unbroken s m (step t up span) without = tt
    stmt_unbroken s m (print e span) without = tt
    stmt_unbroken s m (input t at span) without = tt
    stmt_unbroken s m (break_ span) without = tt
    stmt_unbroken s m (continue_ span) without = tt
    stmt_unbroken s m (empty span) without = tt
    stmt_unbroken s m (call x at es span) without = tt

    stmts_unbroken : (s : State) (m : ℕ) (a : Stmts) → stmts_directive a ≡ None → HasNone (stmts_breaches ds fs s m a)
    stmts_unbroken s m no_stmts without = tt
    stmts_unbroken s m (more_stmts a as') without = (stmt_unbroken _ _ a (both_none _ _ without).0, stmts_unbroken _ _ as' (both_none _ _ without).1)

  top_unbroken : (s : State) (top : Top) → top_directive top ≡ None → HasNone (top_breaches ds fs s top)
  top_unbroken s (function x at ps a span) without = stmts_unbroken _ _ a without
  top_unbroken s (main a span) without = stmts_unbroken _ _ a without
  top_unbroken s (define x minus n ty span) without = tt
  top_unbroken s (extern_ port span) without = tt
  top_unbroken s (global ty x at es init) without = tt

from_unbroken : (ds : List Define) (fs : List FunctionAccess) (s : State) (p : Program) → first_directive p ≡ None → HasNone (breaches_from ds fs s p)
from_unbroken ds fs s [] without = tt
from_unbroken ds fs s (top ∷ tops) without = (top_unbroken ds fs s top (both_none _ _ without).0, from_unbroken (defines_with ds (forget_top top)) (accesses_with ds fs (forget_top top)) (scope_with s (forget_top top)) tops (both_none _ _ without).1)

either : (b : Bool) (xs ys : BreachSet) → HasNone xs → HasNone ys → HasNone (if b then xs else ys)
either true xs ys h k = h
either false xs ys h k = k

pub unbroken_without_directives : (p : Program) → first_directive p ≡ None → HasNone (breaches p)
unbroken_without_directives p without =
    let bounds : (o : Option ℕ) → o ≡ None → HasNone (or_else (height_breaches o p) (weight_breaches o p)) = λ o e. subst (λ q. HasNone (or_else (height_breaches q p) (weight_breaches q p))) (sym e) tt in
    either (has_some (nest_breaches p)) (nest_breaches p) (or_else (height_breaches (first_directive p) p) (weight_breaches (first_directive p) p))
    (from_unbroken [] [] nowhere p without) (bounds (first_directive p) without)
