-- What the variables of a run stand for.
use Rattle.std.specs.Prelude.{ℕ, ◌*◌, ◌^◌, ◌<◌, List, [], ◌∷◌, Option, Some, None, ℤ}
use Rattle.c_semantics.specs.Meaning.State as state
use Rattle.c_semantics.specs.Meaning.State.{scalar, array}
use Rattle.c_meaning.specs.declared.variable.Cell.{Cell}
use Rattle.c_meaning.specs.declared.variable.Cell.TheVariants.{Scalar, Array}

abbrev pub cell_of : Cell → state.Cell
cell_of (Scalar t v) = scalar t v
cell_of (Array t dims es) = array t dims.items es.items

-- each product of a number and the first of these dimensions is below 2^63
abbrev pub FitFrom : ℕ → List ℕ → Type 0
FitFrom p [] = p < 2 ^ 63
FitFrom p (d ∷ ds) = (p < 2 ^ 63) × FitFrom (p * d) ds

abbrev pub IsCell : Cell → Type 0
IsCell (Scalar t v) = Unit {0}
IsCell (Array t dims es) = FitFrom 1 dims.items

-- the number of a scalar
abbrev pub number_of : state.Cell → Option ℤ
number_of (scalar t v) = v
number_of (array t dims es) = None

-- what a variable holds
abbrev pub cell_in : Option state.Var → Option state.Cell
cell_in None = None
cell_in (Some v) = Some v.cell
