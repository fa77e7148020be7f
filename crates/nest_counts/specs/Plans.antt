-- When a directive with its items finds what it takes (OpenMP 6.0, 11: the loops of each loop-transforming construct; `tile`
-- and `interchange` take rectangular nests).
use Rattle.std.specs.Prelude.{ℕ, ◌≡◌, ◌+◌, ◌-◌, ◌<◌, ◌≤◌, List, [], ◌∷◌, length, Some, false, get_or}
use Rattle.c_semantics.specs.Loops.IterationTrees.{Tree, nth, at_depth}
use Rattle.c_semantics.specs.Loops.Transformations.{Transformation, tile, interchange, split, fuse, place_of, Plan, plan, Applied, none_applied, applied_at}
use Rattle.canonical_nests.specs.Kinds.{Part, no_part, transformed_kinds, on_position, plan_kinds}
use Rattle.canonical_nests.specs.Weight.{loops_round}
use Rattle.canonical_nests.specs.LoopRules.Counts.{depend_on_another}
use Rattle.nest_counts.specs.HasKinds.{HasKinds}

-- each size is at least 1
abbrev pub AllPositive : List ℕ → Type 0
AllPositive [] = Unit {0}
AllPositive (s ∷ ss) = 0 < s × AllPositive ss

-- each of 1 to n stands just once in a list of n numbers, and n isn't 0
pub record IsOrder (ps : List ℕ) : Type 0 where
  pub some : 0 < length ps
  pub within : (j : ℕ) → j < length ps → (0 < get_or ps j 0) × (get_or ps j 0 ≤ length ps)
  pub once : (j : ℕ) → j < length ps → place_of (get_or ps j 0) ps ≡ j
  pub found : (p : ℕ) → 0 < p → p ≤ length ps → (place_of p ps < length ps) × (get_or ps (place_of p ps) 0 ≡ p)

-- below k loops of a part a transformation of one nest finds the loops that it takes; those of `tile` and `interchange`
-- don't depend on one another
abbrev pub FindsLoops : Transformation → ℕ → Part → Type 0
FindsLoops (tile ss) k ks = AllPositive ss × (k + length ss ≤ length ks) × (depend_on_another k (length ss) ks ≡ false)
FindsLoops (interchange ps) k ks = IsOrder ps × (k + length ps ≤ length ks) × (depend_on_another k (length ps) ks ≡ false)
FindsLoops _ k ks = k < length ks

-- of the parts in a directive's body the first is taken; `fuse` takes them all, and stands below no loop
abbrev pub FindsParts : Transformation → ℕ → List Part → Type 0
FindsParts (fuse r) k ps = k ≡ 0
FindsParts c k ps = (0 < length ps) × FindsLoops c k (get_or ps 0 no_part)

-- the part on which an item at a position acts, from 0
abbrev pub place : Transformation → ℕ → ℕ
place (split cs) p = p - 1
place (fuse (Some r)) p = r.0 - 1
place _ p = 0

abbrev mutual
  -- a directive finds its parts, and then each item, from the last position to the first
  pub Finds : Plan → ℕ → List Part → Type 0
  Finds (plan c w) k ps = FindsParts c k ps × ItemsFind c w k (transformed_kinds c k ps)

  pub ItemsFind : Transformation → Applied → ℕ → List Part → Type 0
  ItemsFind c none_applied k ps = Unit {0}
  ItemsFind c (applied_at p d w) k ps =
      (place c p < length ps) × Finds d (loops_round c k p) (get_or ps (place c p) no_part ∷ [])
      × ItemsFind c w k (on_position c p k (plan_kinds d) ps)

-- what a function gives for each tree below k loops are these parts, each of which has its kinds where it is put there
pub record PartsHave (ps : List Part) (k : ℕ) (f : Tree → List Tree) (t : Tree) : Type 0 where
  pub many : (u : Tree) → length (f u) ≡ length ps
  pub each : (j : ℕ) → j < length ps → HasKinds (get_or ps j no_part) (at_depth k (λ u. nth j (f u)) t)

-- parts and trees side by side
abbrev pub Beside : (Part → Tree → Type 0) → List Part → List Tree → Type 0
Beside R [] [] = Unit {0}
Beside R (p ∷ ps) (t ∷ ts) = R p t × Beside R ps ts
Beside R [] (t ∷ ts) = ⊥
Beside R (p ∷ ps) [] = ⊥
