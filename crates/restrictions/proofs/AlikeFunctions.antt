-- The rules look at functions only by what may be assigned and read in a call.
use Rattle.std.proofs.Common.{◌≡◌, refl, ap, ℕ, zero, suc, List, [], ◌∷◌, Option, Some, None}
use Rattle.std.specs.Prelude.{is_some, ◌&&◌, ◌||◌, if◌then◌else◌, bytes_eq}
use Rattle.c_tree.specs.Bare.{Name}
use Rattle.c_tree.specs.Placed as p
use Rattle.c_tree.specs.Forget.{forget_directive, forget_head, forget_stmt}
use Rattle.c_semantics.specs.Meaning.State.{State}
use Rattle.c_semantics.specs.Meaning.Expressions.{Define}
use Rattle.c_semantics.specs.Meaning.FileVariables.{FunctionAccess, has_name}
use Rattle.c_semantics.specs.Loops.CanonicalForm.{Canonical, canonical}
use Rattle.c_semantics.specs.Loops.Directives.{plan_of}
use Rattle.c_semantics.specs.Loops.Need.{loops_asked}
use Rattle.c_semantics.specs.Structure.Skeleton.{scope_after, scope_in}
use Rattle.canonical_nests.specs.declared.rules.LoopRule.TheVariants.{L5, L6, L8, L28}
use Rattle.canonical_nests.specs.LoopRules.Accesses.{PlacedName, are_named, assigned_in, calls_in, breaks_in}
use Rattle.canonical_nests.specs.LoopRules.BreachSets.{none, ◌&◌, breach, breach_if, or_else}
use Rattle.canonical_nests.specs.LoopRules.Structure as structure
use Rattle.canonical_nests.specs.LoopRules.Heads as heads
use Rattle.canonical_nests.specs.LoopRules.Heads.{Changes, is_file_variable, has_file_variable, some_may_assign, is_changed, read_breaches, call_breaches, assign_breaches, loop_breaches, form_breaches, break_breaches, bound_reads, scope_below, init_of, round_with}
use Rattle.canonical_nests.specs.LoopRules.Counts as counts
use Rattle.canonical_nests.specs.LoopRules.Programs as programs
use Rattle.restrictions.specs.Alike.{Alike}

module _ (ds : List Define) (fs gs : List FunctionAccess) (alike : Alike fs gs) where
  some_assign : (ns : List PlacedName) (x : Name) → some_may_assign fs ns x ≡ some_may_assign gs ns x
  some_assign [] x = refl
  some_assign (n ∷ ns) x = λ i. alike.assigns n.name x i || some_assign ns x i

  changed : (s : State) (k : Changes) (x : Name) → is_changed fs s k x ≡ is_changed gs s k x
  changed s k x = ap (λ b. are_named k.assigned x || (is_file_variable s x && b)) (some_assign k.called x)

  same_reads : (s : State) (k : Changes) (round : List Name) (c : Canonical) (ns : List PlacedName) → read_breaches fs s k round c ns ≡ read_breaches gs s k round c ns
  same_reads s k round c [] = refl
  same_reads s k round c (n ∷ ns) =
      λ i. (if is_some c.ty && bytes_eq c.var n.name then breach L6 n.at
      else if has_name round n.name then breach L8 n.at
      else breach_if (bytes_eq c.var n.name || changed s k n.name i) L6 n.at)
      & same_reads s k round c ns i

  same_calls : (x : Name) (ns : List PlacedName) → call_breaches fs x ns ≡ call_breaches gs x ns
  same_calls x [] = refl
  same_calls x (f ∷ ns) = λ i. breach_if (alike.assigns f.name x i) L5 f.at & (breach_if (alike.reads f.name x i) L28 f.at & same_calls x ns i)

  same_loop : (s : State) (k : Changes) (round : List Name) (h : p.Head) (a : p.Stmts) (c : Option Canonical) → loop_breaches fs s k round h a c ≡ loop_breaches gs s k round h a c
  same_loop s k round h a None = refl
  same_loop s k round h a (Some c) =
      λ i. same_reads s k round c (bound_reads c.var h) i
      & (assign_breaches c.var (assigned_in [] a)
      & (if has_file_variable s c then same_calls c.var (calls_in a) i else none))

  mutual
    head_stmt : (k : Changes) (s : State) (round : List Name) (m : ℕ) (a : p.Stmt) → heads.stmt_breaches ds fs k s round m a ≡ heads.stmt_breaches ds gs k s round m a
    head_stmt k s round zero a = refl
    head_stmt k s round (suc m) (p.for_ h a z) =
        λ i. form_breaches ds h & (break_breaches (breaks_in a) & (same_loop s k round h a (canonical ds (forget_head h)) i
        & head_stmts k (scope_below ds s (init_of h) (canonical ds (forget_head h))) (round_with (canonical ds (forget_head h)) round) m a i))
    head_stmt k s round (suc m) (p.block a z) = head_stmts k s round (suc m) a
    head_stmt k s round (suc m) (p.omp d a z) = head_stmts k s round (loops_asked (plan_of ds (forget_directive d)) (suc m)) a
    head_stmt k s round (suc m) (p.decl t x at e z) = refl
    head_stmt k s round (suc m) (p.set t o e z) = refl
    head_stmt k s round (suc m) (p.step t up z) = refl
    head_stmt k s round (suc m) (p.print e z) = refl
    head_stmt k s round (suc m) (p.input t at z) = refl
    head_stmt k s round (suc m) (p.if_ e a z) = refl
    head_stmt k s round (suc m) (p.if_else e a b z) = refl
    head_stmt k s round (suc m) (p.while_ e a z) = refl
    head_stmt k s round (suc m) (p.do_ a e z) = refl
    head_stmt k s round (suc m) (p.break_ z) = refl
    head_stmt k s round (suc m) (p.continue_ z) = refl
    head_stmt k s round (suc m) (p.empty z) = refl
    head_stmt k s round (suc m) (p.call x at es z) = refl

    head_stmts : (k : Changes) (s : State) (round : List Name) (m : ℕ) (a : p.Stmts) → heads.stmts_breaches ds fs k s round m a ≡ heads.stmts_breaches ds gs k s round m a
    head_stmts k s round m p.no_stmts = refl
    head_stmts k s round m (p.more_stmts a as') = λ i. head_stmt k s round m a i & head_stmts k s round m as' i

  same_construct : (s : State) (d : p.Directive) (a : p.Stmts) → programs.construct_breaches ds fs s d a ≡ programs.construct_breaches ds gs s d a
  same_construct s d a =
      ap (λ xs. or_else (programs.clause_breaches ds d a) (or_else (structure.construct_breaches ds d a) (or_else xs (counts.construct_breaches ds s d a))))
      (head_stmts (record { assigned = assigned_in [] a; called = calls_in a }) s [] (loops_asked (plan_of ds (forget_directive d)) 0) a)

  mutual
    same_stmt : (s : State) (m : ℕ) (a : p.Stmt) → programs.stmt_breaches ds fs s m a ≡ programs.stmt_breaches ds gs s m a
    same_stmt s m (p.if_ e a z) = same_stmts s 0 a
    same_stmt s m (p.if_else e a b z) = λ i. same_stmts s 0 a i & same_stmts s 0 b i
    same_stmt s m (p.while_ e a z) = same_stmts s 0 a
    same_stmt s m (p.do_ a e z) = same_stmts s 0 a
    same_stmt s zero (p.for_ h a z) = same_stmts (scope_in (init_of h) s) 0 a
    same_stmt s (suc m) (p.for_ h a z) = same_stmts (scope_below ds s (init_of h) (canonical ds (forget_head h))) m a
    same_stmt s m (p.block a z) = same_stmts s m a
    same_stmt s zero (p.omp d a z) = λ i. same_construct s d a i & same_stmts s (loops_asked (plan_of ds (forget_directive d)) 0) a i
    same_stmt s (suc m) (p.omp d a z) = same_stmts s (loops_asked (plan_of ds (forget_directive d)) (suc m)) a
    same_stmt s m (p.decl t x at e z) = refl
    same_stmt s m (p.set t o e z) = refl
    same_stmt s m (p.step t up z) = refl
    same_stmt s m (p.print e z) = refl
    same_stmt s m (p.input t at z) = refl
    same_stmt s m (p.break_ z) = refl
    same_stmt s m (p.continue_ z) = refl
    same_stmt s m (p.empty z) = refl
    same_stmt s m (p.call x at es z) = refl

    pub same_stmts : (s : State) (m : ℕ) (a : p.Stmts) → programs.stmts_breaches ds fs s m a ≡ programs.stmts_breaches ds gs s m a
    same_stmts s m p.no_stmts = refl
    same_stmts s m (p.more_stmts a as') = λ i. same_stmt s m a i & same_stmts (scope_after (forget_stmt a) s) m as' i
