-- Where no rule of heads is broken, no bound reads what may change.
use Rattle.std.proofs.Common.{◌≡◌, refl, ℕ, zero, suc, List, [], ◌∷◌, Option, Some, None, Bool, true, false}
use Rattle.std.specs.Prelude.{is_some, ◌&&◌, ◌||◌, if◌then◌else◌, bytes_eq}
use Rattle.std.proofs.lemmas.Bool.{or_parts}
use Rattle.c_tree.specs.Bare.{Name}
use Rattle.c_tree.specs.Placed.{Stmt, for_, block, omp, Stmts, no_stmts, more_stmts, Head}
use Rattle.c_tree.specs.Forget.{forget_head, forget_directive}
use Rattle.c_semantics.specs.Meaning.State.{State}
use Rattle.c_semantics.specs.Meaning.Expressions.{Define}
use Rattle.c_semantics.specs.Meaning.FileVariables.{has_name, FunctionAccess}
use Rattle.c_semantics.specs.Loops.CanonicalForm.{Canonical, canonical}
use Rattle.c_semantics.specs.Loops.Directives.{plan_of}
use Rattle.c_semantics.specs.Loops.Need.{loops_asked}
use Rattle.canonical_nests.specs.declared.rules.LoopRule.TheVariants.{L6, L8}
use Rattle.canonical_nests.specs.LoopRules.BreachSets.{HasNone, breach, breach_if}
use Rattle.canonical_nests.specs.LoopRules.Accesses.{PlacedName, are_named, assigned_in, calls_in}
use Rattle.canonical_nests.specs.LoopRules.Heads as heads
use Rattle.canonical_nests.specs.LoopRules.Heads.{Changes, is_file_variable, some_may_assign, is_changed, read_breaches, bound_reads, scope_below, init_of, round_with, loop_breaches}
use Rattle.nest_counts.specs.Bounds.{IsInvariant, EachInvariant, BoundsOf, StmtBounds, StmtsBounds}
use Rattle.nest_counts.specs.Laws.{BoundsAreInvariant}
use Rattle.canonical_nests.proofs.BreachSets.{none_if}

not_both : (a b : Bool) → (a && b) ≡ false → a ≡ true → b ≡ false
not_both true b h e = h
not_both false b h e = absurd (cc)

-- no breach of a name says that neither of three tests holds
name_tests : (a b c : Bool) (at : ℕ) → HasNone (if a then breach L6 at else if b then breach L8 at else breach_if c L6 at) → (b ≡ false) × (c ≡ false)
name_tests true b c at h = absurd h
name_tests false true c at h = absurd h
name_tests false false c at h = (refl, none_if c L6 at h)

module _ (ds : List Define) (fs : List FunctionAccess) (k : Changes) where
  each_invariant : (s : State) (round : List Name) (c : Canonical) (ns : List PlacedName) → HasNone (read_breaches fs s k round c ns) → EachInvariant fs s k round c.var ns
  each_invariant s round c [] h = tt
  each_invariant s round c (n ∷ ns) h = (one (name_tests (is_some c.ty && bytes_eq c.var n.name) (has_name round n.name) (bytes_eq c.var n.name || is_changed fs s k n.name) n.at h.0), each_invariant s round c ns h.1)
    where
      one : (has_name round n.name ≡ false) × ((bytes_eq c.var n.name || is_changed fs s k n.name) ≡ false) → IsInvariant fs s k round c.var n.name
      one t =
          let own = or_parts (bytes_eq c.var n.name) (is_changed fs s k n.name) t.1 in
          let changed = or_parts (are_named k.assigned n.name) (is_file_variable s n.name && some_may_assign fs k.called n.name) own.1 in
          record {
            not_own = own.0;
            not_round = t.0;
            not_assigned = changed.0;
            not_by_calls = not_both (is_file_variable s n.name) (some_may_assign fs k.called n.name) changed.1;
          }

  bounds_of : (s : State) (round : List Name) (h : Head) (a : Stmts) (o : Option Canonical) → HasNone (loop_breaches fs s k round h a o) → BoundsOf fs s k round h o
  bounds_of s round h a None none = tt
  bounds_of s round h a (Some c) none = each_invariant s round c (bound_reads c.var h) none.0

  mutual
    stmt_bounds : (s : State) (round : List Name) (m : ℕ) (a : Stmt) → HasNone (heads.stmt_breaches ds fs k s round m a) → StmtBounds ds fs k s round m a
    stmt_bounds s round zero a h = tt
    stmt_bounds s round (suc m) (for_ hd a span) h = (
      bounds_of s round hd a (canonical ds (forget_head hd)) h.1.1.0,
      stmts_bounds (scope_below ds s (init_of hd) (canonical ds (forget_head hd))) (round_with (canonical ds (forget_head hd)) round) m a h.1.1.1,
    )
    stmt_bounds s round (suc m) (block a span) h = stmts_bounds s round (suc m) a h
    stmt_bounds s round (suc m) (omp d a span) h = stmts_bounds s round (loops_asked (plan_of ds (forget_directive d)) (suc m)) a h
    stmt_bounds s round (suc m) a h = tt

    pub stmts_bounds : (s : State) (round : List Name) (m : ℕ) (a : Stmts) → HasNone (heads.stmts_breaches ds fs k s round m a) → StmtsBounds ds fs k s round m a
    stmts_bounds s round m no_stmts h = tt
    stmts_bounds s round m (more_stmts a as') h = (stmt_bounds s round m a h.0, stmts_bounds s round m as' h.1)

pub bounds_are_invariant : BoundsAreInvariant
bounds_are_invariant ds fs s d a h = stmts_bounds ds fs (record { assigned = assigned_in [] a; called = calls_in a }) s [] (loops_asked (plan_of ds (forget_directive d)) 0) a h
