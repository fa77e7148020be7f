-- The first affected loop that isn't canonical (OpenMP 6.0, 6.4.1: canonical loop nest form), where no rule of structure
-- is broken. A directive passes on what it asks of its body; a `for` takes one of the number and passes on the rest.
use Rattle.std.specs.Prelude.{ℕ, zero, suc, ◌-◌, List, Option, Some, None}
use Rattle.std.specs.Option.{option_or}
use Rattle.c_tree.specs.Placed.{Directive, Stmt, for_, block, omp, Stmts, no_stmts, more_stmts}
use Rattle.c_tree.specs.Forget.{forget_directive, forget_head}
use Rattle.c_semantics.specs.Meaning.Expressions.{Define}
use Rattle.c_semantics.specs.Loops.CanonicalForm.{Canonical, canonical}
use Rattle.c_semantics.specs.Loops.Directives.{plan_of}
use Rattle.c_semantics.specs.Loops.Need.{loops_asked}

-- the place where there is no canonical loop
abbrev pub unless_canonical : Option Canonical → ℕ → Option ℕ
unless_canonical None at = Some at
unless_canonical (Some l) at = None

module _ (ds : List Define) where
  abbrev mutual
    -- in a statement of which a directive round it wants m loops, one at least
    pub first_in : ℕ → Stmt → Option ℕ
    first_in m (for_ h a s) = option_or (unless_canonical (canonical ds (forget_head h)) s.start) (first_among (m - 1) a)
    first_in m (block a s) = first_among m a
    first_in m (omp d a s) = first_among (loops_asked (plan_of ds (forget_directive d)) m) a
    first_in m _ = None

    pub first_among : ℕ → Stmts → Option ℕ
    first_among zero as' = None
    first_among (suc m) no_stmts = None
    first_among (suc m) (more_stmts a as') = option_or (first_in (suc m) a) (first_among (suc m) as')

  -- in what a directive takes of which a directive round it wants m loops, 0 where none does
  abbrev pub first_taken : ℕ → Directive → Stmts → Option ℕ
  first_taken m d a = first_among (loops_asked (plan_of ds (forget_directive d)) m) a

  -- the word `for` of the first loop that isn't canonical, of those that are affected where m loops are wanted
  abbrev pub first_unlike : ℕ → Stmt → Option ℕ
  first_unlike zero a = None
  first_unlike (suc m) a = first_in (suc m) a
