-- The breaches of the rules of counts in a statement of which at least one loop is wanted, and in a construct of which m
-- loops are wanted: the construct's own breaches at m of 0.
use Rattle.std.specs.Prelude.{ℕ, ◌-◌, List}
use Rattle.c_tree.specs.Placed.{Stmt, for_, block, omp, Stmts, Directive}
use Rattle.c_tree.specs.Forget.{forget_directive, forget_head}
use Rattle.c_semantics.specs.Meaning.State.{State}
use Rattle.c_semantics.specs.Meaning.Expressions.{Define}
use Rattle.c_semantics.specs.Loops.Directives.{plan_of}
use Rattle.c_semantics.specs.Loops.Need.{loops_asked}
use Rattle.canonical_nests.specs.LoopRules.BreachSets.{BreachSet, none, ◌&◌}
use Rattle.canonical_nests.specs.LoopRules.Counts.{directive_breaches, stmts_breaches}
use Rattle.loop_counts.specs.Wanted.{in_head}

module _ (ds : List Define) (s : State) (m : ℕ) where
  abbrev pub construct_at : Directive → Stmts → BreachSet
  construct_at d a =
      let n = loops_asked (plan_of ds (forget_directive d)) m in
      directive_breaches ds s n d a & stmts_breaches ds s n a

  abbrev pub wanted_breaches : Stmt → BreachSet
  wanted_breaches (for_ h a span) = stmts_breaches ds (in_head (forget_head h) s) (m - 1) a
  wanted_breaches (block a span) = stmts_breaches ds s m a
  wanted_breaches (omp d a span) = construct_at d a
  wanted_breaches _ = none
