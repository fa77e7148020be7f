-- The heads of a construct's affected loops, where some loops are wanted.
use Rattle.std.specs.Prelude.{ℕ, ◌-◌, List, Option, if◌then◌else◌}
use Rattle.c_tree.specs.Bare.{Name}
use Rattle.c_tree.specs.Placed.{Stmt, for_, block, omp, Stmts, Head}
use Rattle.c_tree.specs.Forget.{forget_head, forget_directive}
use Rattle.c_semantics.specs.Meaning.State.{State}
use Rattle.c_semantics.specs.Meaning.Expressions.{Define}
use Rattle.c_semantics.specs.Meaning.FileVariables.{FunctionAccess}
use Rattle.c_semantics.specs.Loops.CanonicalForm.{Canonical, canonical}
use Rattle.c_semantics.specs.Loops.Directives.{plan_of}
use Rattle.c_semantics.specs.Loops.Need.{loops_asked}
use Rattle.canonical_nests.specs.LoopRules.Accesses.{calls_in, breaks_in}
use Rattle.canonical_nests.specs.LoopRules.BreachSets.{BreachSet, none, ◌&◌}
use Rattle.canonical_nests.specs.LoopRules.Heads.{Changes, form_breaches, break_breaches, call_breaches, has_file_variable, loop_breaches, scope_below, round_with, init_of, stmts_breaches}

-- of the calls in the body of a loop, which matter where its variable is a file-scope one
abbrev pub call_breaches_of : List FunctionAccess → State → Canonical → Stmts → BreachSet
call_breaches_of fs s c a = if has_file_variable s c then call_breaches fs c.var (calls_in a) else none

module _ (ds : List Define) (fs : List FunctionAccess) (k : Changes) where
  -- of a loop itself
  abbrev pub here_breaches : State → List Name → Head → Stmts → Option Canonical → BreachSet
  here_breaches s round h a c = form_breaches ds h & (break_breaches (breaks_in a) & loop_breaches fs s k round h a c)

  -- of a loop and of m loops in its body
  abbrev pub for_breaches : State → List Name → ℕ → Head → Stmts → Option Canonical → BreachSet
  for_breaches s round m h a c = here_breaches s round h a c & stmts_breaches ds fs k (scope_below ds s (init_of h) c) (round_with c round) m a

  -- of a statement of which a directive round it wants m loops, m of at least 1
  abbrev pub wanted_breaches : State → List Name → ℕ → Stmt → BreachSet
  wanted_breaches s round m (for_ h a span) = for_breaches s round (m - 1) h a (canonical ds (forget_head h))
  wanted_breaches s round m (block a span) = stmts_breaches ds fs k s round m a
  wanted_breaches s round m (omp d a span) = stmts_breaches ds fs k s round (loops_asked (plan_of ds (forget_directive d)) m) a
  wanted_breaches s round m _ = none
