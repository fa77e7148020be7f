-- Where the file-scope variables stand: the place of the first of each name.
use Rattle.std.specs.Prelude.{◌≡◌, ℕ, suc, List, [], ◌∷◌, Option, Some, None, bytes_eq, if◌then◌else◌}
use Rattle.std.specs.Option.{option_map}
use Rattle.c_tree.specs.Bare.{Name}
use Rattle.resolved_names.specs.Numbered.{number_name}
use Rattle.c_semantics.specs.Meaning.State.{Var}
use Rattle.c_meaning.specs.PlaceTables.{place_at}
use Rattle.c_meaning.specs.declared.place_table.PlaceTable.{PlaceTable}

-- the place of the first variable of a name
abbrev pub first_of : Name → List Var → Option ℕ
first_of x [] = None
first_of x (v ∷ vs) = if bytes_eq x v.name then Some 0 else option_map suc (first_of x vs)

abbrev pub TellsFirst : PlaceTable → List Var → Type 0
TellsFirst table vs = (n : ℕ) → place_at table n ≡ first_of (number_name n) vs
