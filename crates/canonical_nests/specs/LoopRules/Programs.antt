-- Where a program breaks a loop rule. The rules stand in four tiers: clauses, structure, heads and counts. The breaches of
-- a construct are those of the first tier that it breaks, and a construct that stands in the body of another is tested
-- by itself. L26 and L27, which are this profile's own, come after all others.
use Rattle.std.specs.Prelude.{ℕ, zero, suc, List, [], ◌∷◌, map, Option, Some, None, nat_lt}
use Rattle.std.specs.Option.{option_or}
use Rattle.c_tree.specs.Placed.{Stmt, if_, if_else, while_, do_, for_, block, omp, Stmts, no_stmts, more_stmts, Directive, directive, Top, function, main, Program}
use Rattle.c_tree.specs.Forget.{forget_stmt, forget_directive, forget_head, forget_top, forget_param, forget_program}
use Rattle.c_tree.specs.Checked.{most_height}
use Rattle.c_semantics.specs.Meaning.State.{State, with_frame, nowhere}
use Rattle.c_semantics.specs.Meaning.Expressions.{Define}
use Rattle.c_semantics.specs.Meaning.FileVariables.{FunctionAccess, accesses_with, defines_with}
use Rattle.c_semantics.specs.Loops.CanonicalForm.{canonical}
use Rattle.c_semantics.specs.Loops.Directives.{plan_of}
use Rattle.c_semantics.specs.Loops.Need.{loops_asked}
use Rattle.c_semantics.specs.Structure.Skeleton.{scope_after, scope_in, params_frame}
use Rattle.canonical_nests.specs.TallHeight.{tall_height}
use Rattle.canonical_nests.specs.Weight.{weight, most_weight, scope_with}
use Rattle.canonical_nests.specs.declared.rules.LoopRule.TheVariants.{L26, L27}
use Rattle.canonical_nests.specs.LoopRules.BreachSets.{BreachSet, none, ◌&◌, breach_if, or_else}
use Rattle.canonical_nests.specs.LoopRules.Clauses as clauses
use Rattle.canonical_nests.specs.LoopRules.Structure as structure
use Rattle.canonical_nests.specs.LoopRules.Heads as heads
use Rattle.canonical_nests.specs.LoopRules.Heads.{init_of, scope_below}
use Rattle.canonical_nests.specs.LoopRules.Counts as counts

-- ---- constructs

-- the clauses of a directive and of those that it takes
module _ (ds : List Define) where
  abbrev mutual
    -- of a statement of which a directive round it wants m loops
    pub taken_clauses : ℕ → Stmt → BreachSet
    taken_clauses zero _ = none
    taken_clauses (suc m) (for_ h a s) = taken_clauses_in m a
    taken_clauses (suc m) (block a s) = taken_clauses_in (suc m) a
    taken_clauses (suc m) (omp d a s) =
        clauses.directive_breaches ds d & taken_clauses_in (loops_asked (plan_of ds (forget_directive d)) (suc m)) a
    taken_clauses (suc m) _ = none

    pub taken_clauses_in : ℕ → Stmts → BreachSet
    taken_clauses_in m no_stmts = none
    taken_clauses_in m (more_stmts a as') = taken_clauses m a & taken_clauses_in m as'

  abbrev pub clause_breaches : Directive → Stmts → BreachSet
  clause_breaches d a = clauses.directive_breaches ds d & taken_clauses_in (loops_asked (plan_of ds (forget_directive d)) 0) a

-- the first tier that is broken
abbrev pub construct_breaches : List Define → List FunctionAccess → State → Directive → Stmts → BreachSet
construct_breaches ds fs s d a =
    or_else (clause_breaches ds d a)
    (or_else (structure.construct_breaches ds d a)
    (or_else (heads.construct_breaches ds fs s d a)
    (counts.construct_breaches ds s d a)))

-- ---- statements

module _ (ds : List Define) (fs : List FunctionAccess) where
  abbrev mutual
    -- of the constructs in a statement of which a directive round it wants m loops, 0 where none does
    pub stmt_breaches : State → ℕ → Stmt → BreachSet
    stmt_breaches s m (if_ e a span) = stmts_breaches s 0 a
    stmt_breaches s m (if_else e a b span) = stmts_breaches s 0 a & stmts_breaches s 0 b
    stmt_breaches s m (while_ e a span) = stmts_breaches s 0 a
    stmt_breaches s m (do_ a e span) = stmts_breaches s 0 a
    stmt_breaches s zero (for_ h a span) = stmts_breaches (scope_in (init_of h) s) 0 a
    stmt_breaches s (suc m) (for_ h a span) = stmts_breaches (scope_below ds s (init_of h) (canonical ds (forget_head h))) m a
    stmt_breaches s m (block a span) = stmts_breaches s m a
    stmt_breaches s zero (omp d a span) =
        construct_breaches ds fs s d a & stmts_breaches s (loops_asked (plan_of ds (forget_directive d)) 0) a
    stmt_breaches s (suc m) (omp d a span) = stmts_breaches s (loops_asked (plan_of ds (forget_directive d)) (suc m)) a
    stmt_breaches s m _ = none

    pub stmts_breaches : State → ℕ → Stmts → BreachSet
    stmts_breaches s m no_stmts = none
    stmts_breaches s m (more_stmts a as') = stmt_breaches s m a & stmts_breaches (scope_after (forget_stmt a) s) m as'

-- ---- programs

abbrev pub top_breaches : List Define → List FunctionAccess → State → Top → BreachSet
top_breaches ds fs s (function x at ps a span) = stmts_breaches ds fs (with_frame (params_frame (map forget_param ps)) s) 0 a
top_breaches ds fs s (main a span) = stmts_breaches ds fs s 0 a
top_breaches ds fs s _ = none

-- with the defines, the functions and the file-scope variables before an item
abbrev pub breaches_from : List Define → List FunctionAccess → State → Program → BreachSet
breaches_from ds fs s [] = none
breaches_from ds fs s (top ∷ tops) =
    top_breaches ds fs s top
    & breaches_from (defines_with ds (forget_top top)) (accesses_with ds fs (forget_top top)) (scope_with s (forget_top top)) tops

-- the breaches of L1 to L25 and L28
abbrev pub nest_breaches : Program → BreachSet
nest_breaches = breaches_from [] [] nowhere

-- ---- L26 and L27

abbrev mutual
  pub stmt_directive : Stmt → Option ℕ
  stmt_directive (if_ e a s) = stmts_directive a
  stmt_directive (if_else e a b s) = option_or (stmts_directive a) (stmts_directive b)
  stmt_directive (while_ e a s) = stmts_directive a
  stmt_directive (do_ a e s) = stmts_directive a
  stmt_directive (for_ h a s) = stmts_directive a
  stmt_directive (block a s) = stmts_directive a
  stmt_directive (omp (directive k cs at) a s) = Some at.start
  stmt_directive _ = None

  pub stmts_directive : Stmts → Option ℕ
  stmts_directive no_stmts = None
  stmts_directive (more_stmts a as') = option_or (stmt_directive a) (stmts_directive as')

abbrev pub top_directive : Top → Option ℕ
top_directive (function x at ps a s) = stmts_directive a
top_directive (main a s) = stmts_directive a
top_directive _ = None

-- the place of a program's first directive, where it has one
abbrev pub first_directive : Program → Option ℕ
first_directive [] = None
first_directive (top ∷ tops) = option_or (top_directive top) (first_directive tops)

-- L26: the tall height is above 256
abbrev pub height_breaches : Option ℕ → Program → BreachSet
height_breaches None p = none
height_breaches (Some at) p = breach_if (nat_lt most_height (tall_height (forget_program p))) L26 at

-- L27: the weight is above 2^20
abbrev pub weight_breaches : Option ℕ → Program → BreachSet
weight_breaches None p = none
weight_breaches (Some at) p = breach_if (nat_lt most_weight (weight (forget_program p))) L27 at

-- the breaches that a program is refused by, if it has any: of L1 to L25 and L28, else L26, else L27
abbrev pub breaches : Program → BreachSet
breaches p = or_else (nest_breaches p) (or_else (height_breaches (first_directive p) p) (weight_breaches (first_directive p) p))
