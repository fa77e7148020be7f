-- What a table of variables by name stands for.
use Rattle.std.specs.Prelude.{◌≡◌, List, [], ◌∷◌, map, reverse, Option, Some, None, bytes_eq}
use Rattle.std.specs.Option.{option_map}
use Rattle.indexmap.specs.IndexMap.{get}
use Rattle.c_tree.specs.Bare.{Name}
use Rattle.c_tree.specs.declared.tree.Ty.{Ty}
use Rattle.c_semantics.specs.Meaning.State.{Cell, Var, scalar, find}
use Rattle.loop_counts.specs.declared.variables.Variable.{Variable}
use Rattle.loop_counts.specs.declared.variables.Variables.TheInside.{Inside}

abbrev pub variable_of : Variable → Var
variable_of v = record { name = v.name; cell = scalar v.ty None }

-- the latest first
abbrev pub variables_of : Inside → List Var
variables_of t = map variable_of (reverse t.declared.items)

-- a variable without a value
abbrev pub cell_of : Option Ty → Option Cell
cell_of o = option_map (λ t. scalar t None) o

-- what stands for a name that was never declared
abbrev pub or_nothing : Option (Option Ty) → Option Ty
or_nothing None = None
or_nothing (Some o) = o

-- each variable has the type that its name has without it, where the latest stands first
abbrev pub HidesEach : List Variable → Type 0
HidesEach [] = Unit {0}
HidesEach (v ∷ vs) = (cell_of v.hides ≡ find v.name (map variable_of vs)) × HidesEach vs

-- each name has the type of its latest variable
pub record IsTyped (t : Inside) : Type 0 where
  pub types : (x : Name) → cell_of (or_nothing (get bytes_eq t.types x)) ≡ find x (variables_of t)
  pub hidden : HidesEach (reverse t.declared.items)
