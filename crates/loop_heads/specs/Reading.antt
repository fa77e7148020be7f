-- What the names in a bound break, without lists of names.
use Rattle.std.specs.Prelude.{ℕ, List, [], map, reverse, Option, Some, None, Bool, ◌&&◌, ◌||◌, if◌then◌else◌, bytes_eq}
use Rattle.c_tree.specs.Bare.{Name}
use Rattle.c_tree.specs.Placed.{Expr, num, read, item, un, bin, cond, cast, Exprs, no_exprs, more_exprs}
use Rattle.c_tree.specs.PlacedOf.{placed_stmts}
use Rattle.c_tree.specs.declared.tree.Stmt.{Stmt as Node}
use Rattle.c_semantics.specs.Meaning.State.{State}
use Rattle.c_semantics.specs.Meaning.FileVariables.{FunctionAccess, has_name}
use Rattle.canonical_nests.specs.declared.rules.LoopRule.TheVariants.{L6, L8}
use Rattle.canonical_nests.specs.LoopRules.Accesses.{PlacedName, reads, assigned_in, calls_in}
use Rattle.canonical_nests.specs.LoopRules.BreachSets.{BreachSet, none, ◌&◌, breach, breach_if}
use Rattle.canonical_nests.specs.LoopRules.Heads.{Changes, is_changed}
use Rattle.loop_heads.specs.declared.name_stack.NameStack.TheInside.{Inside}

-- the names of the loops round a place, the innermost first
abbrev pub stacked : Inside → List Name
stacked r = map (λ n. n.now) (reverse r.names.items)

-- what a construct with this body assigns and calls
abbrev pub changes_of : List Node → Changes
changes_of a = record { assigned = assigned_in [] (placed_stmts a); called = calls_in (placed_stmts a) }

-- what a bound reads, where there is one
abbrev pub reads_if : Option Expr → List PlacedName
reads_if None = []
reads_if (Some e) = reads e

-- in a bound of a loop that has this variable, and may declare it
module _ (fs : List FunctionAccess) (s : State) (k : Changes) (round : List Name) (declared : Bool) (x : Name) where
  abbrev pub name_breaches : Name → ℕ → BreachSet
  name_breaches y at =
      if declared && bytes_eq x y then breach L6 at
      else if has_name round y then breach L8 at
      else breach_if (bytes_eq x y || is_changed fs s k y) L6 at

  abbrev mutual
    pub bound_breaches : Expr → BreachSet
    bound_breaches (num n t s) = none
    bound_breaches (read y s) = name_breaches y s.start
    bound_breaches (item y es s) = name_breaches y s.start & each_breaches es
    bound_breaches (un op a s) = bound_breaches a
    bound_breaches (bin op a b s) = bound_breaches a & bound_breaches b
    bound_breaches (cond a b c s) = bound_breaches a & (bound_breaches b & bound_breaches c)
    bound_breaches (cast t a s) = bound_breaches a

    pub each_breaches : Exprs → BreachSet
    each_breaches no_exprs = none
    each_breaches (more_exprs e es) = bound_breaches e & each_breaches es

  abbrev pub breaches_if : Option Expr → BreachSet
  breaches_if None = none
  breaches_if (Some e) = bound_breaches e
