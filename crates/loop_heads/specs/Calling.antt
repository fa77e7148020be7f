-- What calls in statements may do to one variable, without lists of names.
use Rattle.std.specs.Prelude.{ℕ, List, Bool, false, ◌||◌}
use Rattle.c_tree.specs.Bare.{Name}
use Rattle.c_tree.specs.Placed.{Stmt, if_, if_else, while_, do_, for_, block, omp, call, Stmts, no_stmts, more_stmts}
use Rattle.c_semantics.specs.Meaning.FileVariables.{FunctionAccess, has_name, access_of}
use Rattle.canonical_nests.specs.declared.rules.LoopRule.TheVariants.{L5, L28}
use Rattle.canonical_nests.specs.LoopRules.BreachSets.{BreachSet, none, ◌&◌, breach_if}

module _ (fs : List FunctionAccess) (x : Name) where
  -- a call of this function at this place
  abbrev pub one_call : Name → ℕ → BreachSet
  one_call f at = breach_if (has_name (access_of fs f).assigns x) L5 at & breach_if (has_name (access_of fs f).reads x) L28 at

  abbrev mutual
    pub calls_touch : Stmt → BreachSet
    calls_touch (if_ e a s) = all_calls_touch a
    calls_touch (if_else e a b s) = all_calls_touch a & all_calls_touch b
    calls_touch (while_ e a s) = all_calls_touch a
    calls_touch (do_ a e s) = all_calls_touch a
    calls_touch (for_ h a s) = all_calls_touch a
    calls_touch (block a s) = all_calls_touch a
    calls_touch (omp d a s) = all_calls_touch a
    calls_touch (call f at es s) = one_call f at.start
    calls_touch _ = none

    pub all_calls_touch : Stmts → BreachSet
    all_calls_touch no_stmts = none
    all_calls_touch (more_stmts a as') = calls_touch a & all_calls_touch as'

  abbrev mutual
    pub calls_assign : Stmt → Bool
    calls_assign (if_ e a s) = all_calls_assign a
    calls_assign (if_else e a b s) = all_calls_assign a || all_calls_assign b
    calls_assign (while_ e a s) = all_calls_assign a
    calls_assign (do_ a e s) = all_calls_assign a
    calls_assign (for_ h a s) = all_calls_assign a
    calls_assign (block a s) = all_calls_assign a
    calls_assign (omp d a s) = all_calls_assign a
    calls_assign (call f at es s) = has_name (access_of fs f).assigns x
    calls_assign _ = false

    pub all_calls_assign : Stmts → Bool
    all_calls_assign no_stmts = false
    all_calls_assign (more_stmts a as') = calls_assign a || all_calls_assign as'
