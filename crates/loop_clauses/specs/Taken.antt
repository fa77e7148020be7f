-- The clauses of what stands in a directive's body and is taken by it, where some loops are wanted; and one clause after
-- others.
use Rattle.std.specs.Prelude.{ℕ, ◌-◌, List, not}
use Rattle.c_tree.specs.Placed.{Clause, clause, Stmt, for_, block, omp}
use Rattle.c_tree.specs.Forget.{forget_directive}
use Rattle.c_tree.specs.declared.tree.Kind.{Kind}
use Rattle.c_semantics.specs.Meaning.Expressions.{Define}
use Rattle.c_semantics.specs.Loops.Directives.{plan_of}
use Rattle.c_semantics.specs.Loops.Need.{loops_asked}
use Rattle.canonical_nests.specs.declared.rules.LoopRule.TheVariants.{L12, L13}
use Rattle.canonical_nests.specs.LoopRules.BreachSets.{BreachSet, none, ◌&◌, breach_if}
use Rattle.canonical_nests.specs.LoopRules.Clauses.{belongs, clause_breaches, directive_breaches}
use Rattle.canonical_nests.specs.LoopRules.Programs.{taken_clauses_in}
use Rattle.loop_clauses.specs.declared.earlier.Earlier.{Earlier}
use Rattle.loop_clauses.specs.Earlier.{excludes}

-- of one clause after these
abbrev pub one_clause : List Define → Kind → ℕ → Earlier → List ℕ → Clause → BreachSet
one_clause ds k n earlier taken (clause c s) =
    breach_if (excludes earlier c) L12 s.start & (breach_if (not (belongs k c)) L13 s.start & clause_breaches ds k n taken s.start c)

-- of a statement of which a directive round it wants m loops, m of at least 1
abbrev pub wanted_clauses : List Define → ℕ → Stmt → BreachSet
wanted_clauses ds m (for_ h a s) = taken_clauses_in ds (m - 1) a
wanted_clauses ds m (block a s) = taken_clauses_in ds m a
wanted_clauses ds m (omp d a s) =
    directive_breaches ds d & taken_clauses_in ds (loops_asked (plan_of ds (forget_directive d)) m) a
wanted_clauses ds m _ = none
