-- Programs whose directives are all `reverse`, those of `apply` too, each over one canonical loop that no `break` leaves
-- and whose variable has a type (OpenMP 6.0, 6.4.1, 11.1 and 11.5).
use Rattle.std.specs.Prelude.{List, [], ◌∷◌, Bool, true, false, ◌&&◌, is_some, nat_le}
use Rattle.c_tree.specs.Bare.{Stmt, if_, if_else, while_, do_, for_, block, break_, omp, Stmts, no_stmts, more_stmts, Top, function, main, Program}
use Rattle.c_semantics.specs.Meaning.State.{State, nowhere}
use Rattle.c_semantics.specs.Meaning.Expressions.{Define}
use Rattle.c_semantics.specs.Meaning.FileVariables.{defines_with}
use Rattle.c_semantics.specs.Loops.Directives.{plan_of}
use Rattle.c_semantics.specs.Loops.Transformations.{reverse_, Plan, plan, Applied, none_applied, applied_at}
use Rattle.c_semantics.specs.Structure.Skeleton.{scope_after}
use Rattle.c_scopes.specs.Types.{with_params}
use Rattle.c_scopes.specs.Laws.{scope_with}
use Rattle.carried_out.specs.CarriedOut.{loop_at, scope_below, in_head}

-- no `break` in a statement would leave a loop round it (C11 6.8.6.3); loops and constructs keep theirs
abbrev mutual
  pub stays_in : Stmt → Bool
  stays_in break_ = false
  stays_in (if_ e a) = all_stay_in a
  stays_in (if_else e a b) = all_stay_in a && all_stay_in b
  stays_in (block a) = all_stay_in a
  stays_in _ = true

  pub all_stay_in : Stmts → Bool
  all_stay_in no_stmts = true
  all_stay_in (more_stmts a as') = stays_in a && all_stay_in as'

-- a plan that only reverses: `reverse` gives one loop, so each item stands at position 1
abbrev mutual
  pub is_reversal : Plan → Bool
  is_reversal (plan reverse_ w) = are_reversals w
  is_reversal (plan _ w) = false

  pub are_reversals : Applied → Bool
  are_reversals none_applied = true
  are_reversals (applied_at p d w) = nat_le p 1 && (is_reversal d && are_reversals w)

module _ (ds : List Define) where
  abbrev mutual
    pub is_reversible : State → Stmt → Bool
    is_reversible s (if_ e a) = are_reversible s a
    is_reversible s (if_else e a b) = are_reversible s a && are_reversible s b
    is_reversible s (while_ e a) = are_reversible s a
    is_reversible s (do_ a e) = are_reversible s a
    is_reversible s (for_ h a) = are_reversible (in_head h s) a
    is_reversible s (block a) = are_reversible s a
    is_reversible s (omp d a) = is_reversal (plan_of ds d) && is_nest s a
    is_reversible s _ = true

    pub are_reversible : State → Stmts → Bool
    are_reversible s no_stmts = true
    are_reversible s (more_stmts a as') = is_reversible s a && are_reversible (scope_after a s) as'

    -- the list leads to such a loop, through braces and further directives
    pub is_nest : State → Stmts → Bool
    is_nest s no_stmts = false
    is_nest s (more_stmts a no_stmts) = is_nest_in s a
    is_nest s (more_stmts a (more_stmts b as')) = false

    pub is_nest_in : State → Stmt → Bool
    is_nest_in s (for_ h a) =
        is_some (loop_at ds s h) && (all_stay_in a && are_reversible (scope_below s (loop_at ds s h)) a)
    is_nest_in s (block a) = is_nest s a
    is_nest_in s (omp d a) = is_reversal (plan_of ds d) && is_nest s a
    is_nest_in s _ = false

abbrev pub is_reversible_top : List Define → State → Top → Bool
is_reversible_top ds s (function x ps a) = are_reversible ds (with_params ps s) a
is_reversible_top ds s (main a) = are_reversible ds s a
is_reversible_top ds s _ = true

abbrev pub are_reversible_items : List Define → State → Program → Bool
are_reversible_items ds s [] = true
are_reversible_items ds s (i ∷ is) =
    is_reversible_top ds s i && are_reversible_items (defines_with ds i) (scope_with s i) is

abbrev pub is_reversible_program : Program → Bool
is_reversible_program p = are_reversible_items [] nowhere p
