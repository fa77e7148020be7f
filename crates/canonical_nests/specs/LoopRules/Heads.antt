-- The rules of affected source loops (OpenMP 6.0, 6.4.1: canonical loop nest form, the form of the head, and the
-- restrictions on the variable, on the bounds and on `break`): L2 to L6, the source loops of L8, L9, and L28, which is this
-- profile's own, since a body has a private copy of the variable. The affected loops of a construct are those that its
-- directives ask for. Variables are compared by their declarations.
use Rattle.std.specs.Prelude.{ℕ, zero, suc, List, [], ◌∷◌, ◌++◌, Option, Some, None, is_some, is_none, Bool, false, ◌&&◌, ◌||◌, if◌then◌else◌, bytes_eq}
use Rattle.c_tree.specs.Bare as b
use Rattle.c_tree.specs.Bare.{Name}
use Rattle.c_tree.specs.Placed.{Expr, bin, Stmt, decl, set, for_, block, omp, Stmts, no_stmts, more_stmts, MaybeStmt, a_stmt, Head, head, Directive}
use Rattle.std.specs.Option.{option_map}
use Rattle.c_tree.specs.Forget.{forget_expr, forget_maybe, forget_head, forget_directive}
use Rattle.c_semantics.specs.Meaning.State.{scalar, State, find, push}
use Rattle.c_semantics.specs.Meaning.Expressions.{Define}
use Rattle.c_semantics.specs.Meaning.FileVariables.{has_name, FunctionAccess, access_of}
use Rattle.c_semantics.specs.Loops.CanonicalForm as form
use Rattle.c_semantics.specs.Loops.CanonicalForm.{Canonical, Init, init, Test, is_read, canonical}
use Rattle.c_semantics.specs.Loops.TripCount.{loop_type}
use Rattle.c_semantics.specs.Loops.Directives.{plan_of}
use Rattle.c_semantics.specs.Loops.Need.{loops_asked}
use Rattle.c_semantics.specs.Structure.Skeleton.{scope_in}
use Rattle.canonical_nests.specs.declared.rules.LoopRule.TheVariants.{L2, L3, L4, L5, L6, L8, L9, L28}
use Rattle.canonical_nests.specs.LoopRules.BreachSets.{BreachSet, none, ◌&◌, breach, breach_if}
use Rattle.canonical_nests.specs.LoopRules.Accesses.{PlacedName, reads, assigned_in, calls_in, breaks_in, are_named}

-- ---- L2, L3, L4: the first part of the head that isn't canonical

abbrev pub step_breaches : Option Canonical → ℕ → BreachSet
step_breaches c at = breach_if (is_none c) L4 at

abbrev pub test_breaches : Option Test → ℕ → Option Canonical → ℕ → BreachSet
test_breaches None at c step_at = breach L3 at
test_breaches (Some t) at c step_at = step_breaches c step_at

abbrev pub init_breaches : Option Init → Option b.Expr → ℕ → ℕ → Option Canonical → ℕ → BreachSet
init_breaches None e at test_at c step_at = breach L2 at
init_breaches (Some i) e at test_at c step_at = test_breaches (form.test i.var e) test_at c step_at

abbrev pub form_breaches : List Define → Head → BreachSet
form_breaches ds (head i i_at e e_at next next_at) =
    init_breaches (init (forget_maybe i)) (option_map forget_expr e) i_at e_at
    (canonical ds (forget_head (head i i_at e e_at next next_at))) next_at

-- ---- the bounds, with their places

abbrev pub lower_bound : MaybeStmt → List PlacedName
lower_bound (a_stmt (decl t x at (Some e) s)) = reads e
lower_bound (a_stmt (set t o e s)) = reads e
lower_bound _ = []

-- the side of the test that isn't the variable; where both are, the right one
abbrev pub upper_bound : Name → Option Expr → List PlacedName
upper_bound x (Some (bin o a c s)) = if is_read x (forget_expr a) then reads c else reads a
upper_bound x _ = []

abbrev pub bound_reads : Name → Head → List PlacedName
bound_reads x (head i i_at e e_at next next_at) = lower_bound i ++ upper_bound x e

-- ---- names

-- the name means a file-scope variable, and no local one or private copy
abbrev pub is_file_variable : State → Name → Bool
is_file_variable s x = is_none (find x s.frame)

-- the variable of a loop with this head is a file-scope one
abbrev pub has_file_variable : State → Canonical → Bool
has_file_variable s c = is_none c.ty && is_file_variable s c.var

abbrev pub may_assign : List FunctionAccess → PlacedName → Name → Bool
may_assign fs f x = has_name (access_of fs f.name).assigns x

abbrev pub may_read : List FunctionAccess → PlacedName → Name → Bool
may_read fs f x = has_name (access_of fs f.name).reads x

abbrev pub some_may_assign : List FunctionAccess → List PlacedName → Name → Bool
some_may_assign fs [] x = false
some_may_assign fs (f ∷ ns) x = may_assign fs f x || some_may_assign fs ns x

-- the scope in the body of an affected loop, whose variable is a private copy there
abbrev pub scope_below : List Define → State → b.MaybeStmt → Option Canonical → State
scope_below ds s i None = scope_in i s
scope_below ds s i (Some c) = push c.var (scalar (loop_type ds s c) None) s

abbrev pub init_of : Head → b.MaybeStmt
init_of (head i i_at e e_at next next_at) = forget_maybe i

-- ---- the rules of a loop

-- L5: a name that is assigned is the loop's variable
abbrev pub assign_breaches : Name → List PlacedName → BreachSet
assign_breaches x [] = none
assign_breaches x (n ∷ ns) = breach_if (bytes_eq x n.name) L5 n.at & assign_breaches x ns

-- L5 and L28: a called function may assign, or may read, the loop's variable
abbrev pub call_breaches : List FunctionAccess → Name → List PlacedName → BreachSet
call_breaches fs x [] = none
call_breaches fs x (f ∷ ns) = breach_if (may_assign fs f x) L5 f.at & (breach_if (may_read fs f x) L28 f.at & call_breaches fs x ns)

-- L9
abbrev pub break_breaches : List ℕ → BreachSet
break_breaches [] = none
break_breaches (at ∷ ats) = breach L9 at & break_breaches ats

-- of what a construct assigns and calls
pub record Changes : Type 0 where
  pub assigned : List PlacedName
  pub called : List PlacedName

-- the name, which stands in a bound, is a variable that is assigned in the construct
abbrev pub is_changed : List FunctionAccess → State → Changes → Name → Bool
is_changed fs s k x = are_named k.assigned x || (is_file_variable s x && some_may_assign fs k.called x)

-- L6: a bound reads what the construct assigns, the loop's own variable included. L8: it reads the variable of a loop
-- round it. Round are the variables of the affected loops round this one
abbrev pub read_breaches : List FunctionAccess → State → Changes → List Name → Canonical → List PlacedName → BreachSet
read_breaches fs s k round c [] = none
read_breaches fs s k round c (n ∷ ns) =
    (if is_some c.ty && bytes_eq c.var n.name then breach L6 n.at
    else if has_name round n.name then breach L8 n.at
    else breach_if (bytes_eq c.var n.name || is_changed fs s k n.name) L6 n.at)
    & read_breaches fs s k round c ns

-- the rules that look at the variable and at the bounds of a canonical head
abbrev pub loop_breaches : List FunctionAccess → State → Changes → List Name → Head → Stmts → Option Canonical → BreachSet
loop_breaches fs s k round h a None = none
loop_breaches fs s k round h a (Some c) =
    read_breaches fs s k round c (bound_reads c.var h)
    & (assign_breaches c.var (assigned_in [] a)
    & (if has_file_variable s c then call_breaches fs c.var (calls_in a) else none))

abbrev pub round_with : Option Canonical → List Name → List Name
round_with None round = round
round_with (Some c) round = c.var ∷ round

-- ---- constructs

module _ (ds : List Define) (fs : List FunctionAccess) (k : Changes) where
  abbrev mutual
    -- of the affected loops of a statement of which a directive round it wants m loops
    pub stmt_breaches : State → List Name → ℕ → Stmt → BreachSet
    stmt_breaches s round zero _ = none
    stmt_breaches s round (suc m) (for_ h a span) =
        let c = canonical ds (forget_head h) in
        form_breaches ds h & (break_breaches (breaks_in a) & (loop_breaches fs s k round h a c
        & stmts_breaches (scope_below ds s (init_of h) c) (round_with c round) m a))
    stmt_breaches s round (suc m) (block a span) = stmts_breaches s round (suc m) a
    stmt_breaches s round (suc m) (omp d a span) =
        stmts_breaches s round (loops_asked (plan_of ds (forget_directive d)) (suc m)) a
    stmt_breaches s round (suc m) _ = none

    pub stmts_breaches : State → List Name → ℕ → Stmts → BreachSet
    stmts_breaches s round m no_stmts = none
    stmts_breaches s round m (more_stmts a as') = stmt_breaches s round m a & stmts_breaches s round m as'

abbrev pub construct_breaches : List Define → List FunctionAccess → State → Directive → Stmts → BreachSet
construct_breaches ds fs s d a =
    stmts_breaches ds fs (record { assigned = assigned_in [] a; called = calls_in a }) s []
    (loops_asked (plan_of ds (forget_directive d)) 0) a
