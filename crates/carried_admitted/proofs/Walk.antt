-- Statements that break neither a name rule nor a loop rule, and whose directives all reverse, are such as are carried out.
use Rattle.std.proofs.Common.{◌≡◌, refl, subst, ℕ, List, [], ◌∷◌, Bool, true, lit≤}
use Rattle.std.specs.Prelude.{◌&&◌, is_some}
use Rattle.std.specs.Option.{option_map}
use Rattle.c_tree.specs.Bare.{Name}
use Rattle.c_tree.specs.Placed.{Stmt, if_, if_else, while_, do_, for_, block, omp, Stmts, no_stmts, more_stmts, Head, head, Directive, directive}
use Rattle.c_tree.specs.Forget.{forget_expr, forget_stmt, forget_stmts, forget_maybe, forget_head, forget_directive}
use Rattle.c_tree.specs.WellFormed.{WellFormedStmt, WellFormedStmts}
use Rattle.c_tree.specs.declared.tree.Kind.TheVariants.{Reverse}
use Rattle.c_tree.specs.NameRules.BreachSets as names
use Rattle.c_tree.specs.NameRules.Scopes.{Scope, inner, after_stmt, after_head}
use Rattle.c_tree.specs.NameRules.Breaches as name_rules
use Rattle.c_semantics.specs.Meaning.State.{State}
use Rattle.c_semantics.specs.Meaning.Expressions.{Define}
use Rattle.c_semantics.specs.Meaning.FileVariables.{FunctionAccess}
use Rattle.c_semantics.specs.Loops.Directives.{plan_of}
use Rattle.c_semantics.specs.Structure.Skeleton.{scope_after, scope_in}
use Rattle.canonical_nests.specs.LoopRules.BreachSets.{HasNone}
use Rattle.canonical_nests.specs.LoopRules.PlacedPlans.{PlacedPlan, placed_plan}
use Rattle.canonical_nests.specs.LoopRules.Accesses.{assigned_in, calls_in}
use Rattle.canonical_nests.specs.LoopRules.Structure as structure
use Rattle.canonical_nests.specs.LoopRules.Structure.{one_loop_breaches, body_breaches, unwrapped, stmt_list}
use Rattle.canonical_nests.specs.LoopRules.Heads as heads
use Rattle.canonical_nests.specs.LoopRules.Heads.{Changes}
use Rattle.canonical_nests.specs.LoopRules.Programs as rules
use Rattle.canonical_nests.specs.LoopRules.Programs.{taken_clauses_in}
use Rattle.carried_out.specs.AllReverse.{is_reverse, reverses_only, all_reverse_only}
use Rattle.carried_out.specs.CarriedOut.{loop_at, scope_below}
use Rattle.carried_out.specs.Reversible.{is_reversal, all_stay_in, is_reversible, are_reversible, is_nest}
use Rattle.carried_out.proofs.LoopsAsked.{asks_one}
use Rattle.std.proofs.lemmas.Bool.{and_parts, and_from}
use Rattle.canonical_nests.proofs.BreachSets.{neither_breaks}
use Rattle.carried_admitted.proofs.Reversals.{only_reverses}
use Rattle.carried_admitted.proofs.Visible.{Sees, seen_inside, seen_after, seen_in_loop}
use Rattle.carried_admitted.proofs.Heads.{loop_there, no_break_leaves, seen_below_head}

two_statements : (a c : Stmt) (as' : Stmts) → unwrapped (more_stmts a (more_stmts c as')) ≡ a ∷ c ∷ stmt_list as'
two_statements (block a s) c as' = refl
two_statements _ c as' = refl

-- the rules of a directive's body are those of one loop
one_loop : (ds : List Define) (d : Directive) (a : Stmts) → is_reverse (forget_directive d) ≡ true → HasNone (body_breaches ds d a)
    → (p : PlacedPlan) × (at : ℕ) × HasNone (one_loop_breaches ds p at (unwrapped a))
one_loop ds (directive Reverse cs s) a h k = (placed_plan ds (directive Reverse cs s), s.start, k)
one_loop ds (directive _ cs s) a h k = absurd (cc)

module _ (ds : List Define) (fs : List FunctionAccess) (f : Bool) where
  mutual
    -- a list leads to one loop
    leads : (a : Stmts) (l : Bool) (t : Scope) (s sl sh : State) (p : PlacedPlan) (at : ℕ) (k : Changes) (round : List Name) → Sees t s
        → names.HasNone (name_rules.stmts_breaches f l t a) → HasNone (rules.stmts_breaches ds fs sl 1 a) → HasNone (taken_clauses_in ds 1 a)
        → HasNone (structure.stmts_breaches ds 1 a) → HasNone (one_loop_breaches ds p at (unwrapped a)) → HasNone (heads.stmts_breaches ds fs k sh round 1 a)
        → all_reverse_only (forget_stmts a) ≡ true → WellFormedStmts (forget_stmts a) → is_nest ds s (forget_stmts a) ≡ true
    leads no_stmts l t s sl sh p at k round g n c d e o h r w = absurd o
    leads (more_stmts (for_ (head i i_at test test_at next next_at) a sp) no_stmts) l t s sl sh p at k round g n c d e o h r w =
        let whole : Head = head i i_at test test_at next next_at in
        let there = loop_there ds f l t s g i i_at test test_at next next_at n.0.0.0 h.0.0 in
        and_from (is_some (loop_at ds s (forget_head whole))) _ there
        (and_from (all_stay_in (forget_stmts a)) _ (no_break_leaves a h.0.1.0)
        (all_reversible a true (inner (after_head t whole)) (scope_below s (loop_at ds s (forget_head whole))) _
        (seen_below_head ds t s i (option_map forget_expr test) next w.0.0.3 g there) n.0.1 c.0 (and_parts _ true r).0 w.0.1))
    leads (more_stmts (block a sp) no_stmts) l t s sl sh p at k round g n c d e o h r w =
        leads a l (inner t) s sl sh p at k round (seen_inside t s g) n.0 c.0 d.0 e.0 o h.0 (and_parts _ true r).0 w.0
    leads (more_stmts (omp d' a sp) no_stmts) l t s sl sh p at k round g n c d e o h r w =
        let both = (and_parts (is_reverse (forget_directive d') && all_reverse_only (forget_stmts a)) true r).0 in
        let own = (and_parts (is_reverse (forget_directive d')) (all_reverse_only (forget_stmts a)) both).0 in
        let plain = only_reverses ds d' own d.0.0 in
        let asked = asks_one (plan_of ds (forget_directive d')) 1 (lit≤ tt) plain in
        let tiers = neither_breaks _ (body_breaches ds d' a) e.0 in
        let body = one_loop ds d' a own tiers.1 in
        and_from (is_reversal (plan_of ds (forget_directive d'))) (is_nest ds s (forget_stmts a)) plain
        (leads a l (inner t) s sl sh body.0 body.1 k round (seen_inside t s g) n.0.1
        (subst (λ m. HasNone (rules.stmts_breaches ds fs sl m a)) asked c.0)
        (subst (λ m. HasNone (taken_clauses_in ds m a)) asked d.0.1)
        (subst (λ m. HasNone (structure.stmts_breaches ds m a)) asked tiers.0)
        body.2
        (subst (λ m. HasNone (heads.stmts_breaches ds fs k sh round m a)) asked h.0)
        (and_parts (is_reverse (forget_directive d')) (all_reverse_only (forget_stmts a)) both).1 w.0.1)
    leads (more_stmts _ no_stmts) l t s sl sh p at k round g n c d e o h r w = absurd o
    leads (more_stmts a (more_stmts b as')) l t s sl sh p at k round g n c d e o h r w =
        let two : HasNone (one_loop_breaches ds p at (a ∷ b ∷ stmt_list as')) = subst (λ xs. HasNone (one_loop_breaches ds p at xs)) (two_statements a b as') o in absurd two.1

    reversible : (a : Stmt) (l : Bool) (t : Scope) (s sl : State) → Sees t s → names.HasNone (name_rules.stmt_breaches f l t a) → HasNone (rules.stmt_breaches ds fs sl 0 a)
        → reverses_only (forget_stmt a) ≡ true → WellFormedStmt (forget_stmt a) → is_reversible ds s (forget_stmt a) ≡ true
    reversible (if_ e a sp) l t s sl g n c r w = all_reversible a l (inner t) s sl (seen_inside t s g) n.1 c r w.1
    reversible (if_else e a b sp) l t s sl g n c r w =
        and_from (are_reversible ds s (forget_stmts a)) (are_reversible ds s (forget_stmts b))
        (all_reversible a l (inner t) s sl (seen_inside t s g) n.1.0 c.0 (and_parts _ (all_reverse_only (forget_stmts b)) r).0 w.1)
        (all_reversible b l (inner t) s sl (seen_inside t s g) n.1.1 c.1 (and_parts (all_reverse_only (forget_stmts a)) _ r).1 w.2)
    reversible (while_ e a sp) l t s sl g n c r w = all_reversible a true (inner t) s sl (seen_inside t s g) n.1 c r w.1
    reversible (do_ a e sp) l t s sl g n c r w = all_reversible a true (inner t) s sl (seen_inside t s g) n.0 c r w.0
    reversible (for_ (head i i_at test test_at next next_at) a sp) l t s sl g n c r w =
        all_reversible a true (inner (after_head t (head i i_at test test_at next next_at))) (scope_in (forget_maybe i) s) _ (seen_in_loop t s i next w.0.3 g) n.1 c r w.1
    reversible (block a sp) l t s sl g n c r w = all_reversible a l (inner t) s sl (seen_inside t s g) n c r w
    reversible (omp d a sp) l t s sl g n c r w =
        let own = (and_parts (is_reverse (forget_directive d)) (all_reverse_only (forget_stmts a)) r).0 in
        let tiers = neither_breaks (rules.clause_breaches ds d a) _ c.0 in
        let later = neither_breaks (structure.construct_breaches ds d a) _ tiers.1 in
        let last = neither_breaks (heads.construct_breaches ds fs sl d a) _ later.1 in
        let body_tiers = neither_breaks _ (body_breaches ds d a) later.0 in
        let plain = only_reverses ds d own tiers.0.0 in
        let asked = asks_one (plan_of ds (forget_directive d)) 0 (lit≤ tt) plain in
        let body = one_loop ds d a own body_tiers.1 in
        and_from (is_reversal (plan_of ds (forget_directive d))) (is_nest ds s (forget_stmts a)) plain
        (leads a l (inner t) s sl sl body.0 body.1 (record { assigned = assigned_in [] a; called = calls_in a }) [] (seen_inside t s g) n.1
        (subst (λ m. HasNone (rules.stmts_breaches ds fs sl m a)) asked c.1)
        (subst (λ m. HasNone (taken_clauses_in ds m a)) asked tiers.0.1)
        (subst (λ m. HasNone (structure.stmts_breaches ds m a)) asked body_tiers.0)
        body.2
        (subst (λ m. HasNone (heads.stmts_breaches ds fs (record { assigned = assigned_in [] a; called = calls_in a }) sl [] m a)) asked last.0)
        (and_parts (is_reverse (forget_directive d)) (all_reverse_only (forget_stmts a)) r).1 w.1)
    reversible _ l t s sl g n c r w = refl

    pub all_reversible : (a : Stmts) (l : Bool) (t : Scope) (s sl : State) → Sees t s → names.HasNone (name_rules.stmts_breaches f l t a) → HasNone (rules.stmts_breaches ds fs sl 0 a)
        → all_reverse_only (forget_stmts a) ≡ true → WellFormedStmts (forget_stmts a) → are_reversible ds s (forget_stmts a) ≡ true
    all_reversible no_stmts l t s sl g n c r w = refl
    all_reversible (more_stmts a as') l t s sl g n c r w =
        and_from (is_reversible ds s (forget_stmt a)) (are_reversible ds (scope_after (forget_stmt a) s) (forget_stmts as'))
        (reversible a l t s sl g n.0 c.0 (and_parts _ (all_reverse_only (forget_stmts as')) r).0 w.0)
        (all_reversible as' l (after_stmt t a) (scope_after (forget_stmt a) s) (scope_after (forget_stmt a) sl) (seen_after t s a g) n.1 c.1 (and_parts (reverses_only (forget_stmt a)) _ r).1 w.1)
