-- The parameters of a function with their places forgotten.
use Rattle.std.proofs.Common.{◌≡◌, refl, ap, List, [], ◌∷◌, map}
use Rattle.c_tree.specs.BareOf.{bare_param}
use Rattle.c_tree.specs.PlacedOf.{placed_param}
use Rattle.c_tree.specs.Forget.{forget_param}
use Rattle.c_tree.specs.declared.tree.Param.{Param}

pub forgotten_params : (xs : List Param) → map forget_param (map placed_param xs) ≡ map bare_param xs
forgotten_params [] = refl
forgotten_params (x ∷ xs) = ap (λ ps. bare_param x ∷ ps) (forgotten_params xs)

pub ruleset items = (forgotten_params)
