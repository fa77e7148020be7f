-- What a loop over the parts that stand below others has left.
use Rattle.std.proofs.Common.{◌≡◌, refl, ◌<◌, ◌≤◌, ◌+◌, ℕ, List, [], ◌∷◌, ◌++◌, map, length, drop, slice_index_or, get_or, Option}
use Rattle.c_tree.proofs.Walks.{rest_more, rest_none}
use Rattle.canonical_nests.specs.Kinds.{Part, no_part, settled, transformed_kinds, part_kinds}
use Rattle.canonical_nests.specs.Plans.{seen_transformation}
use Rattle.canonical_nests.specs.declared.plan.Transformation.{Transformation}
use Rattle.canonical_nests.specs.declared.plan.Transformation.TheVariants.{Tile, Interchange, Reverse, Split, Fuse, UnrollFull, UnrollPartial}

pub below_more : (ks : Part) (xs : List Part) (i : ℕ) (x : Part) → i < length xs → x ≡ slice_index_or xs i x
    → map (λ part. settled (ks ++ part)) (drop i xs) ≡ settled (ks ++ x) ∷ map (λ part. settled (ks ++ part)) (drop (i + 1) xs)
below_more ks xs i = rest_more (map (λ part. settled (ks ++ part))) xs i

pub below_end : (ks : Part) (xs : List Part) (i : ℕ) → length xs ≤ i → map (λ part. settled (ks ++ part)) (drop i xs) ≡ []
below_end ks xs i = rest_none (map (λ part. settled (ks ++ part))) xs i

-- any transformation but `fuse` takes the first part
pub not_fuse : (c : Transformation) (k : ℕ) (ps : List Part) → ((r : Option (ℕ × ℕ)) → c ≡ Fuse r → ⊥)
    → transformed_kinds (seen_transformation c) k ps ≡ part_kinds (seen_transformation c) k (get_or ps 0 no_part)
not_fuse (Tile ss) k ps other = refl
not_fuse (Interchange qs) k ps other = refl
not_fuse Reverse k ps other = refl
not_fuse (Split cs) k ps other = refl
not_fuse (Fuse r) k ps other = absurd (other r refl)
not_fuse UnrollFull k ps other = refl
not_fuse (UnrollPartial f) k ps other = refl

pub ruleset transforms = (below_more, below_end)
