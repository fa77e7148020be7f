-- What is known of functions, by what may be assigned and read in a call.
use Rattle.std.specs.Prelude.{ℕ, ◌≡◌, List}
use Rattle.c_tree.specs.Bare.{Name}
use Rattle.c_tree.specs.Placed.{Stmts}
use Rattle.c_semantics.specs.Meaning.State.{State}
use Rattle.c_semantics.specs.Meaning.Expressions.{Define}
use Rattle.c_semantics.specs.Meaning.FileVariables.{FunctionAccess, access_of, has_name}
use Rattle.canonical_nests.specs.LoopRules.Programs.{stmts_breaches}

-- the same variables may be assigned and read
pub record Alike (fs gs : List FunctionAccess) : Type 0 where
  pub assigns : (f x : Name) → has_name (access_of fs f).assigns x ≡ has_name (access_of gs f).assigns x
  pub reads : (f x : Name) → has_name (access_of fs f).reads x ≡ has_name (access_of gs f).reads x

-- the order and the number of the names in what is known of a function don't matter
abbrev pub BreachesOfAlike : Type 0
BreachesOfAlike = (ds : List Define) (fs gs : List FunctionAccess) (s : State) (m : ℕ) (a : Stmts) → Alike fs gs → stmts_breaches ds fs s m a ≡ stmts_breaches ds gs s m a
