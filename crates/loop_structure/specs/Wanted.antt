-- The least breach of structure in a statement of which a directive round it wants some loops.
use Rattle.std.specs.Prelude.{ℕ, ◌-◌, List, Option, Some, None}
use Rattle.c_tree.specs.Placed.{Directive, Stmt, for_, block, omp, Stmts}
use Rattle.c_tree.specs.Forget.{forget_directive}
use Rattle.c_semantics.specs.Meaning.Expressions.{Define}
use Rattle.c_semantics.specs.Loops.Directives.{plan_of}
use Rattle.c_semantics.specs.Loops.Need.{loops_asked}
use Rattle.canonical_nests.specs.declared.rules.LoopBreach.{LoopBreach}
use Rattle.canonical_nests.specs.LoopRules.BreachSets.{BreachSet, or_else, least}
use Rattle.canonical_nests.specs.LoopRules.Structure.{stmts_breaches, body_breaches}

-- the second counts only where the first is missing
abbrev pub first_of : Option LoopBreach → Option LoopBreach → Option LoopBreach
first_of None o = o
first_of (Some b) o = Some b

-- of a directive of which a directive round it wants m loops, 0 where none does
abbrev pub directive_breaches : List Define → ℕ → Directive → Stmts → BreachSet
directive_breaches ds m d a = or_else (stmts_breaches ds (loops_asked (plan_of ds (forget_directive d)) m) a) (body_breaches ds d a)

-- m is at least 1
abbrev pub wanted_least : List Define → ℕ → Stmt → Option LoopBreach
wanted_least ds m (for_ h a s) = least (stmts_breaches ds (m - 1) a)
wanted_least ds m (block a s) = least (stmts_breaches ds m a)
wanted_least ds m (omp d a s) = least (directive_breaches ds m d a)
wanted_least ds m _ = None
