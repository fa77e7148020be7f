-- What a frame keeps of its variables besides them: where the innermost of each name stands, counted from the outermost on.
use Rattle.std.specs.Prelude.{◌≡◌, ℕ, List, [], ◌∷◌, length, map, Option, Some, None, bytes_eq, if◌then◌else◌}
use Rattle.c_tree.specs.Bare.{Name}
use Rattle.resolved_names.specs.Numbered.{number_name}
use Rattle.c_semantics.specs.Meaning.State.{Var}
use Rattle.c_meaning.specs.PlaceTables.{place_at}
use Rattle.c_meaning.specs.declared.frame.Binding.{Binding}
use Rattle.c_meaning.specs.declared.place_table.PlaceTable.{PlaceTable}

abbrev pub variables : List Binding → List Var
variables bs = map (λ (b : Binding). b.variable) bs

-- the places that they hide
abbrev pub places : List Binding → List (Option ℕ)
places bs = map (λ (b : Binding). b.hidden) bs

-- the place of the innermost variable of a name, of variables whose innermost is the first
abbrev pub place_of : Name → List Var → Option ℕ
place_of x [] = None
place_of x (v ∷ vs) = if bytes_eq x v.name then Some (length vs) else place_of x vs

-- each variable with the place of the one that it hides
abbrev pub Hide : List Var → List (Option ℕ) → Type 0
Hide [] [] = Unit {0}
Hide (v ∷ vs) (place ∷ places) = (place ≡ place_of v.name vs) × Hide vs places
Hide _ _ = ⊥

pub record IsFrame (vs : List Var) (places : List (Option ℕ)) (table : PlaceTable) : Type 0 where
  pub hidden : Hide vs places
  pub innermost : (n : ℕ) → place_at table n ≡ place_of (number_name n) vs
