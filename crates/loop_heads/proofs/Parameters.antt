-- The names of a function's parameters, of which the last ones were entered.
use Rattle.std.proofs.Common.{◌≡◌, ◌<◌, ◌≤◌, ◌-◌, ℕ, List, [], ◌∷◌, map, length, drop, slice_index_or}
use Rattle.c_tree.specs.BareOf.{bare_param}
use Rattle.c_tree.specs.declared.tree.Param.{Param}
use Rattle.c_semantics.specs.Meaning.FileVariables.{param_names}
use Rattle.loop_counts.proofs.BackwardWalks.{seen_more, seen_none, seen_all}

pub names_more : (xs : List Param) (left : ℕ) (x : Param) → 0 < left → left ≤ length xs → x ≡ slice_index_or xs (left - 1) x
    → param_names (map bare_param (drop (left - 1) xs)) ≡ x.name ∷ param_names (map bare_param (drop left xs))
names_more = seen_more (λ ys. param_names (map bare_param ys))

pub names_none : (xs : List Param) (left : ℕ) → left ≡ length xs → param_names (map bare_param (drop left xs)) ≡ []
names_none = seen_none (λ ys. param_names (map bare_param ys))

pub ruleset names = (names_more, names_none, seen_all)
