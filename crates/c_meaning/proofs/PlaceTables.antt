-- The entries of a table of places.
use Rattle.std.proofs.Common.{◌≡◌, refl, ℕ, zero, suc, ◌<◌, List, [], ◌∷◌, ◌++◌, length, arith}
use Rattle.std.specs.Prelude.{slice_index_or, Option, Some, None}

-- one entry more, without a place
pub entry_more : (places : List (Option ℕ)) (n : ℕ) → slice_index_or (places ++ None ∷ []) n None ≡ slice_index_or places n None
entry_more [] zero = refl
entry_more [] (suc n) = refl
entry_more (p ∷ places) zero = refl
entry_more (p ∷ places) (suc n) = entry_more places n

pub entry_within : (places : List (Option ℕ)) (n i : ℕ) → slice_index_or places n None ≡ Some i → n < length places
entry_within [] n i is = absurd (cc)
entry_within (p ∷ places) zero i is = omega arith
entry_within (p ∷ places) (suc n) i is = let less : n < length places = entry_within places n i is in omega arith

pub ruleset room = (entry_more)
