-- The iterations of a construct: its source loops, fixed at its entry, and what its directives make of them (OpenMP 6.0,
-- 11: the counts of all affected loops are taken before the outermost one).
use Rattle.std.specs.Prelude.{ℕ, zero, suc, ◌+◌, List, [], ◌∷◌, ◌++◌, Option, Some, None, Result, Ok, Err}
use Rattle.c_tree.specs.Bare.{Stmt, for_, block, omp, Stmts, no_stmts, more_stmts, Directive}
use Rattle.c_semantics.specs.Meaning.State.{State}
use Rattle.c_tree.specs.declared.arithmetic.Trap.{Trap}
use Rattle.c_tree.specs.declared.arithmetic.Trap.TheVariants.{Unset}
use Rattle.c_tree.specs.Arithmetic.{and_then}
use Rattle.c_semantics.specs.Meaning.Expressions.{Define}
use Rattle.c_semantics.specs.Loops.CanonicalForm.{Canonical, canonical}
use Rattle.c_semantics.specs.Loops.TripCount.{Range, value_at, entry}
use Rattle.c_semantics.specs.Loops.IterationTrees.{Tree, body, loop_of, members, put}
use Rattle.c_semantics.specs.Loops.Transformations.{Plan, as_one, apply_plan}
use Rattle.c_semantics.specs.Loops.Directives.{plan_of}
use Rattle.c_semantics.specs.Loops.Need.{loops_asked}

-- a source loop round its one part
abbrev pub loop_over : Range → List Tree → List Tree
loop_over r ts = loop_of (members r.count (λ k. put (value_at r k) (as_one ts))) ∷ []

-- a head that isn't canonical stands in no accepted construct
abbrev pub enter : List Define → State → Option Canonical → Result Range Trap
enter ds s None = Err Unset
enter ds s (Some c) = entry ds s c

abbrev pub both_lists : Result (List Tree) Trap → Result (List Tree) Trap → Result (List Tree) Trap
both_lists a b = and_then a (λ ts. and_then b (λ us. Ok (ts ++ us)))

-- where no loop is left to look for, this is a body
abbrev pub or_body : ℕ → ℕ → Result (List Tree) Trap → Result (List Tree) Trap
or_body zero b r = Ok (body b [] ∷ [])
or_body (suc m) b r = r

abbrev pub or_one : ℕ → ℕ → ℕ
or_one zero n = 1
or_one (suc m) n = n

abbrev mutual
  -- how many bodies there are m loops down
  pub bodies : List Define → ℕ → Stmt → ℕ
  bodies ds zero _ = 0
  bodies ds (suc m) (for_ h a) = or_one m (all_bodies ds m a)
  bodies ds (suc m) (block a) = all_bodies ds (suc m) a
  bodies ds (suc m) (omp d a) = all_bodies ds (loops_asked (plan_of ds d) (suc m)) a
  bodies ds (suc m) _ = 0

  pub all_bodies : List Define → ℕ → Stmts → ℕ
  all_bodies ds m no_stmts = 0
  all_bodies ds m (more_stmts a as') = bodies ds m a + all_bodies ds m as'

module _ (act : Plan → List Tree → List Tree) (ds : List Define) (s : State) where
  abbrev mutual
    -- the parts of a statement, m loops down, its bodies numbered from b on: each range is fixed in the state s, in the
    -- order of the text, and act tells what a directive makes of the parts of its body
    pub nest : ℕ → ℕ → Stmt → Result (List Tree) Trap
    nest b zero _ = Ok []
    nest b (suc m) (for_ h a) =
        and_then (enter ds s (canonical ds h)) (λ r. and_then (or_body m b (nest_all b m a)) (λ ts. Ok (loop_over r ts)))
    nest b (suc m) (block a) = nest_all b (suc m) a
    nest b (suc m) (omp d a) = and_then (nest_all b (loops_asked (plan_of ds d) (suc m)) a) (λ ts. Ok (act (plan_of ds d) ts))
    nest b (suc m) _ = Ok []

    pub nest_all : ℕ → ℕ → Stmts → Result (List Tree) Trap
    nest_all b m no_stmts = Ok []
    nest_all b m (more_stmts a as') = both_lists (nest b m a) (nest_all (b + bodies ds m a) m as')

  -- of a construct that is entered in the state s: the first trap of its entry, or the parts
  abbrev pub construct : Directive → Stmts → Result (List Tree) Trap
  construct d a = and_then (nest_all 0 (loops_asked (plan_of ds d) 0) a) (λ ts. Ok (act (plan_of ds d) ts))

-- what a construct runs: its directives act, the one nearest to the loops first
abbrev pub forest : List Define → State → Directive → Stmts → Result (List Tree) Trap
forest = construct apply_plan

-- its source loops in the order of the text, on which no directive acts
abbrev pub source_forest : List Define → State → Directive → Stmts → Result (List Tree) Trap
source_forest = construct (λ p ts. ts)
