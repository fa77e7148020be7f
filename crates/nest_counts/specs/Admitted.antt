-- What the laws of a whole construct ask of it: that it breaks no loop rule, and that its loops are typed in its scope as
-- in the state of its entry.
use Rattle.std.specs.Prelude.{ℕ, List, Result}
use Rattle.c_tree.specs.Placed.{Directive, Stmt, Stmts}
use Rattle.c_tree.specs.Forget.{forget_directive, forget_stmts}
use Rattle.c_tree.specs.WellFormed.{WellFormedDirective, WellFormedStmts}
use Rattle.c_tree.specs.declared.arithmetic.Trap.{Trap}
use Rattle.c_semantics.specs.Meaning.State.{State}
use Rattle.c_semantics.specs.Meaning.Expressions.{Define}
use Rattle.c_semantics.specs.Meaning.FileVariables.{FunctionAccess}
use Rattle.c_semantics.specs.Loops.IterationTrees.{Tree}
use Rattle.c_semantics.specs.Loops.Transformations.{Transformation, tile, interchange, apply_plan}
use Rattle.c_semantics.specs.Loops.Directives.{plan_of}
use Rattle.c_semantics.specs.Loops.Need.{loops_asked}
use Rattle.c_semantics.specs.Loops.Forest.{nest_all, forest}
use Rattle.canonical_nests.specs.Kinds.{Part, plan_kinds}
use Rattle.canonical_nests.specs.Shapes.{body_kinds}
use Rattle.canonical_nests.specs.LoopRules.BreachSets.{BreachSet, ◌&◌, HasNone}
use Rattle.canonical_nests.specs.LoopRules.Structure as structure
use Rattle.canonical_nests.specs.LoopRules.Counts as counts
use Rattle.canonical_nests.specs.LoopRules.Programs.{taken_clauses, construct_breaches}
use Rattle.nest_counts.specs.Statements.{ConstructSaysAlike}

-- of the rules of clauses, of structure and of counts, in a statement of which m loops are wanted
abbrev pub rule_breaches : List Define → State → ℕ → Stmt → BreachSet
rule_breaches ds scope m a = taken_clauses ds m a & (structure.stmt_breaches ds m a & counts.stmt_breaches ds scope m a)

-- a construct in a scope, entered in the state s
pub record IsAdmitted (ds : List Define) (fs : List FunctionAccess) (scope s : State) (d : Directive) (a : Stmts) : Type 0 where
  pub directive : WellFormedDirective (forget_directive d)
  pub body : WellFormedStmts (forget_stmts a)
  pub rules : HasNone (construct_breaches ds fs scope d a)
  pub typed : ConstructSaysAlike ds s scope (forget_directive d) (forget_stmts a)

-- what holds of every admitted construct, with its scope and the state of its entry
abbrev pub EachAdmitted : (List Define → State → State → Directive → Stmts → Type 0) → Type 0
EachAdmitted P =
    (ds : List Define) (fs : List FunctionAccess) (scope s : State) (d : Directive) (a : Stmts) → IsAdmitted ds fs scope s d a →
    P ds scope s d a

-- ---- a construct's trees, and their parts

-- those in its body, on which its directive acts
abbrev pub trees_in : List Define → State → Directive → Stmts → Result (List Tree) Trap
trees_in ds s d a = nest_all apply_plan ds s 0 (loops_asked (plan_of ds (forget_directive d)) 0) (forget_stmts a)

abbrev pub parts_in : List Define → State → Directive → Stmts → List Part
parts_in ds scope d a = body_kinds ds scope (loops_asked (plan_of ds (forget_directive d)) 0) (forget_directive d) (forget_stmts a)

-- those that it runs
abbrev pub trees_run : List Define → State → Directive → Stmts → Result (List Tree) Trap
trees_run ds s d a = forest ds s (forget_directive d) (forget_stmts a)

abbrev pub parts_run : List Define → State → Directive → Stmts → List Part
parts_run ds scope d a = plan_kinds (plan_of ds (forget_directive d)) 0 (parts_in ds scope d a)

-- the transformations that take a rectangular nest
abbrev pub TakesRectangle : Transformation → Type 0
TakesRectangle (tile ss) = Unit {0}
TakesRectangle (interchange ps) = Unit {0}
TakesRectangle _ = ⊥
