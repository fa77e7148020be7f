-- The numbers of names: a name's is its index in a table.
use Rattle.std.specs.Prelude.{ℕ, List, [], ◌∷◌, Option, Some, None, bytes_eq, position}
use Rattle.c_tree.specs.Bare.{Name}
use Rattle.resolved_names.specs.Renaming.{Renaming}

-- a name without a number is told from all that have one by its length
abbrev pub name_at : Name → Option ℕ → Name
name_at x (Some n) = n ∷ []
name_at x None = 0 ∷ 0 ∷ x

abbrev pub numbering : List Name → Renaming
numbering names x = name_at x (position (bytes_eq x) names)
