-- What a loop over the counts of `split` has left.
use Rattle.std.proofs.Common.{◌≡◌, ◌∙◌, refl, ap, ◌<◌, ◌≤◌, ◌+◌, ◌-◌, ℕ, zero, suc, min, List, [], ◌∷◌, map, length, drop, slice_index_or, Option, Some, None, arith}
use Rattle.c_tree.proofs.Walks.{rest_more, rest_none}
use Rattle.c_semantics.specs.Loops.Transformations.{known_counts, filled}
use Rattle.c_semantics.specs.Structure.Parts.{clipped}
use Rattle.canonical_nests.specs.declared.nest.CountKind.{CountKind}
use Rattle.canonical_nests.specs.declared.nest.CountKind.TheVariants.{Known, Entry, Depends}
use Rattle.canonical_nests.specs.Kinds.{Part, same_kind, split_kinds}

pub left_given : (xs : List (Option ℕ)) (i : ℕ) (x : Option ℕ) (c : ℕ) → i < length xs → x ≡ slice_index_or xs i x → x ≡ Some c
    → known_counts (drop i xs) ≡ c + known_counts (drop (i + 1) xs)
left_given xs i x c within is some = rest_more known_counts xs i x within is ∙ ap (λ o. known_counts (o ∷ drop (i + 1) xs)) some

pub left_filled : (xs : List (Option ℕ)) (i : ℕ) (x : Option ℕ) → i < length xs → x ≡ slice_index_or xs i x → x ≡ None
    → known_counts (drop i xs) ≡ known_counts (drop (i + 1) xs)
left_filled xs i x within is none = rest_more known_counts xs i x within is ∙ ap (λ o. known_counts (o ∷ drop (i + 1) xs)) none

pub left_end : (xs : List (Option ℕ)) (i : ℕ) → length xs ≤ i → known_counts (drop i xs) ≡ 0
left_end xs i = rest_none known_counts xs i

pub clipped_more : (n fill : ℕ) (xs : List (Option ℕ)) (i : ℕ) (x : Option ℕ) → i < length xs → x ≡ slice_index_or xs i x
    → map Known (clipped n (map (filled fill) (drop i xs))) ≡ Known (min (filled fill x) n) ∷ map Known (clipped (n - filled fill x) (map (filled fill) (drop (i + 1) xs)))
clipped_more n fill xs i = rest_more (λ ys. map Known (clipped n (map (filled fill) ys))) xs i

pub clipped_end : (n fill : ℕ) (xs : List (Option ℕ)) (i : ℕ) → length xs ≤ i → map Known (clipped n (map (filled fill) (drop i xs))) ≡ []
clipped_end n fill xs i = rest_none (λ ys. map Known (clipped n (map (filled fill) ys))) xs i

pub same_more : (k : CountKind) (xs : List (Option ℕ)) (i : ℕ) → i < length xs → map (λ _. k) (drop i xs) ≡ k ∷ map (λ _. k) (drop (i + 1) xs)
same_more k xs i lt = rest_more (map (λ _. k)) xs i (slice_index_or xs i None) lt (within xs i lt)
  where
    within : (ys : List (Option ℕ)) (j : ℕ) → j < length ys → slice_index_or ys j None ≡ slice_index_or ys j (slice_index_or ys j None)
    within [] j h = absurd (omega (arith, h))
    within (y ∷ ys) zero h = refl
    within (y ∷ ys) (suc j) h = within ys j (omega (arith, h))

pub same_end : (k : CountKind) (xs : List (Option ℕ)) (i : ℕ) → length xs ≤ i → map (λ _. k) (drop i xs) ≡ []
same_end k xs i = rest_none (map (λ _. k)) xs i

pub rest_of_more : (ks : Part) (xs : List CountKind) (i : ℕ) (x : CountKind) → i < length xs → x ≡ slice_index_or xs i x
    → map (λ first. first ∷ ks) (drop i xs) ≡ (x ∷ ks) ∷ map (λ first. first ∷ ks) (drop (i + 1) xs)
rest_of_more ks xs i = rest_more (map (λ first. first ∷ ks)) xs i

pub rest_of_end : (ks : Part) (xs : List CountKind) (i : ℕ) → length xs ≤ i → map (λ first. first ∷ ks) (drop i xs) ≡ []
rest_of_end ks xs i = rest_none (map (λ first. first ∷ ks)) xs i

-- ---- the kind of each

known_each : (k : CountKind) (ns : List ℕ) → map (same_kind k) (map (λ c. Some c) ns) ≡ map Known ns
known_each k [] = refl
known_each k (n ∷ ns) = ap (λ ks. Known n ∷ ks) (known_each k ns)

same_each : (k : CountKind) (cs : List (Option ℕ)) → map (same_kind k) (map (λ c. None) cs) ≡ map (λ _. k) cs
same_each k [] = refl
same_each k (c ∷ cs) = ap (λ ks. k ∷ ks) (same_each k cs)

pub split_known : (n : ℕ) (cs : List (Option ℕ)) → split_kinds (Known n) cs ≡ map Known (clipped n (map (filled (n - known_counts cs)) cs))
split_known n cs = known_each (Known n) (clipped n (map (filled (n - known_counts cs)) cs))

pub split_same : (k : CountKind) (cs : List (Option ℕ)) → ((n : ℕ) → k ≡ Known n → ⊥) → split_kinds k cs ≡ map (λ _. k) cs
split_same (Known n) cs other = absurd (other n refl)
split_same Entry cs other = same_each Entry cs
split_same (Depends ps) cs other = same_each (Depends ps) cs

pub ruleset splits = (left_given, left_filled, left_end, clipped_more, clipped_end, same_end, rest_of_more, rest_of_end, split_known)
