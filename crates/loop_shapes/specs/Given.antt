-- What a `for` or a directive gives where m loops are wanted of it, where it breaks a rule of structure, and the first of its
-- affected loops that isn't canonical. A directive of which no loop is wanted is a construct by itself.
use Rattle.std.specs.Prelude.{ℕ, List, Option}
use Rattle.c_tree.specs.Bare as b
use Rattle.c_tree.specs.Placed as p
use Rattle.c_semantics.specs.Meaning.State.{State}
use Rattle.c_semantics.specs.Meaning.Expressions.{Define}
use Rattle.c_semantics.specs.Loops.Directives.{plan_of}
use Rattle.c_semantics.specs.Loops.Need.{loops_asked}
use Rattle.canonical_nests.specs.Kinds.{Part, plan_kinds}
use Rattle.canonical_nests.specs.Shapes.{stmt_kinds, body_kinds}
use Rattle.canonical_nests.specs.LoopRules.BreachSets.{BreachSet}
use Rattle.canonical_nests.specs.LoopRules.Structure.{stmt_breaches}
use Rattle.loop_structure.specs.Wanted.{directive_breaches}
use Rattle.loop_shapes.specs.Affected.{first_taken, first_unlike}

module _ (ds : List Define) where
  abbrev pub directive_kinds : State → ℕ → b.Directive → b.Stmts → List Part
  directive_kinds s m d a = plan_kinds (plan_of ds d) 0 (body_kinds ds s (loops_asked (plan_of ds d) m) d a)

  abbrev pub given_kinds : State → ℕ → b.Stmt → List Part
  given_kinds s m (b.omp d a) = directive_kinds s m d a
  given_kinds s m a = stmt_kinds ds s m a

  abbrev pub given_breaches : ℕ → p.Stmt → BreachSet
  given_breaches m (p.omp d a s) = directive_breaches ds m d a
  given_breaches m a = stmt_breaches ds m a

  abbrev pub given_unlike : ℕ → p.Stmt → Option ℕ
  given_unlike m (p.omp d a s) = first_taken ds m d a
  given_unlike m a = first_unlike ds m a
