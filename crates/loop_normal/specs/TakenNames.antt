-- The names that fresh ones are kept apart from: each once, in their order.
use Rattle.std.specs.Prelude.{List, [], ◌∷◌, ◌++◌, if◌then◌else◌}
use Rattle.c_tree.specs.Bare.{Name}
use Rattle.c_semantics.specs.Meaning.FileVariables.{has_name}

-- with one more name, last, where it isn't there yet
abbrev pub with_name : List Name → Name → List Name
with_name taken x = if has_name taken x then taken else taken ++ x ∷ []

-- with more of them, one after another
abbrev pub with_names : List Name → List Name → List Name
with_names taken [] = taken
with_names taken (x ∷ xs) = with_names (with_name taken x) xs

abbrev pub taken_names : List Name → List Name
taken_names xs = with_names [] xs
