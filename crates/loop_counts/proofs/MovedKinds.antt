-- What a loop over positions, or over the loops of a part, has left.
use Rattle.std.proofs.Common.{◌≡◌, ◌<◌, ◌≤◌, ◌+◌, ℕ, List, [], ◌∷◌, ◌++◌, map, length, drop, slice_index_or}
use Rattle.std.specs.Prelude.{flat_map}
use Rattle.c_tree.proofs.Walks.{rest_more, rest_none}
use Rattle.canonical_nests.specs.declared.nest.CountKind.{CountKind}
use Rattle.canonical_nests.specs.Kinds.{moved}

pub lifted_more : (k : ℕ) (xs : List ℕ) (i x : ℕ) → i < length xs → x ≡ slice_index_or xs i x
    → map (λ q. k + q) (drop i xs) ≡ (k + x) ∷ map (λ q. k + q) (drop (i + 1) xs)
lifted_more k xs i = rest_more (map (λ q. k + q)) xs i

pub lifted_end : (k : ℕ) (xs : List ℕ) (i : ℕ) → length xs ≤ i → map (λ q. k + q) (drop i xs) ≡ []
lifted_end k xs i = rest_none (map (λ q. k + q)) xs i

pub places_more : (f : ℕ → List ℕ) (xs : List ℕ) (i x : ℕ) → i < length xs → x ≡ slice_index_or xs i x
    → flat_map f (drop i xs) ≡ f x ++ flat_map f (drop (i + 1) xs)
places_more f xs i = rest_more (flat_map f) xs i

pub places_end : (f : ℕ → List ℕ) (xs : List ℕ) (i : ℕ) → length xs ≤ i → flat_map f (drop i xs) ≡ []
places_end f xs i = rest_none (flat_map f) xs i

pub moved_more : (f : ℕ → List ℕ) (xs : List CountKind) (i : ℕ) (x : CountKind) → i < length xs → x ≡ slice_index_or xs i x
    → map (moved f) (drop i xs) ≡ moved f x ∷ map (moved f) (drop (i + 1) xs)
moved_more f xs i = rest_more (map (moved f)) xs i

pub moved_end : (f : ℕ → List ℕ) (xs : List CountKind) (i : ℕ) → length xs ≤ i → map (moved f) (drop i xs) ≡ []
moved_end f xs i = rest_none (map (moved f)) xs i

pub ruleset moves = (lifted_more, lifted_end, places_more, places_end, moved_more, moved_end)
