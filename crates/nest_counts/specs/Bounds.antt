-- What the bounds of the affected loops of a construct don't read (OpenMP 6.0, 6.4.1: the bounds are invariant).
use Rattle.std.specs.Prelude.{ℕ, zero, suc, ◌≡◌, List, [], ◌∷◌, Option, Some, true, false, bytes_eq}
use Rattle.c_tree.specs.Bare.{Name}
use Rattle.c_tree.specs.Placed.{Stmt, for_, block, omp, Stmts, no_stmts, more_stmts, Head, Directive}
use Rattle.c_tree.specs.Forget.{forget_head, forget_directive}
use Rattle.c_semantics.specs.Meaning.State.{State}
use Rattle.c_semantics.specs.Meaning.Expressions.{Define}
use Rattle.c_semantics.specs.Meaning.FileVariables.{has_name, FunctionAccess}
use Rattle.c_semantics.specs.Loops.CanonicalForm.{Canonical, canonical}
use Rattle.c_semantics.specs.Loops.Directives.{plan_of}
use Rattle.c_semantics.specs.Loops.Need.{loops_asked}
use Rattle.canonical_nests.specs.LoopRules.Accesses.{PlacedName, are_named, assigned_in, calls_in}
use Rattle.canonical_nests.specs.LoopRules.Heads.{Changes, is_file_variable, some_may_assign, bound_reads, scope_below, init_of, round_with}

-- a name in a bound of a loop: it is neither the loop's own variable nor that of a loop round it, the construct doesn't
-- assign it, and where it is the file's no function that the construct calls may
pub record IsInvariant (fs : List FunctionAccess) (s : State) (k : Changes) (round : List Name) (own x : Name) : Type 0 where
  pub not_own : bytes_eq own x ≡ false
  pub not_round : has_name round x ≡ false
  pub not_assigned : are_named k.assigned x ≡ false
  pub not_by_calls : is_file_variable s x ≡ true → some_may_assign fs k.called x ≡ false

abbrev pub EachInvariant : List FunctionAccess → State → Changes → List Name → Name → List PlacedName → Type 0
EachInvariant fs s k round own [] = Unit {0}
EachInvariant fs s k round own (n ∷ ns) = IsInvariant fs s k round own n.name × EachInvariant fs s k round own ns

abbrev pub BoundsOf : List FunctionAccess → State → Changes → List Name → Head → Option Canonical → Type 0
BoundsOf fs s k round h (Some c) = EachInvariant fs s k round c.var (bound_reads c.var h)
BoundsOf fs s k round h _ = Unit {0}

module _ (ds : List Define) (fs : List FunctionAccess) (k : Changes) where
  abbrev mutual
    -- of the affected loops of a statement of which a directive round it wants m loops
    pub StmtBounds : State → List Name → ℕ → Stmt → Type 0
    StmtBounds s round zero _ = Unit {0}
    StmtBounds s round (suc m) (for_ h a span) =
        let c = canonical ds (forget_head h) in
        BoundsOf fs s k round h c × StmtsBounds (scope_below ds s (init_of h) c) (round_with c round) m a
    StmtBounds s round (suc m) (block a span) = StmtsBounds s round (suc m) a
    StmtBounds s round (suc m) (omp d a span) = StmtsBounds s round (loops_asked (plan_of ds (forget_directive d)) (suc m)) a
    StmtBounds s round (suc m) _ = Unit {0}

    pub StmtsBounds : State → List Name → ℕ → Stmts → Type 0
    StmtsBounds s round m no_stmts = Unit {0}
    StmtsBounds s round m (more_stmts a as') = StmtBounds s round m a × StmtsBounds s round m as'

-- of a construct
abbrev pub ConstructBounds : List Define → List FunctionAccess → State → Directive → Stmts → Type 0
ConstructBounds ds fs s d a =
    StmtsBounds ds fs (record { assigned = assigned_in [] a; called = calls_in a }) s [] (loops_asked (plan_of ds (forget_directive d)) 0) a
