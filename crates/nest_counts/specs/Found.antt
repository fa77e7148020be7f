-- What the rules of clauses say of the arguments of a directive and its items (OpenMP 6.0, 11, the restrictions on the clauses
-- of the loop-transforming constructs), and the depths of parts.
use Rattle.std.specs.Prelude.{ℕ, ◌≡◌, ◌-◌, ◌<◌, ◌≤◌, List, [], ◌∷◌, length}
use Rattle.c_semantics.specs.Loops.Transformations.{Transformation, tile, interchange, split, fuse, Plan, plan, Applied, none_applied, applied_at}
use Rattle.canonical_nests.specs.Kinds.{Part}
use Rattle.nest_counts.specs.Plans.{AllPositive, IsOrder}

-- how many loops each part has below the first k
abbrev pub lengths_below : ℕ → List Part → List ℕ
lengths_below k [] = []
lengths_below k (p ∷ ps) = (length p - k) ∷ lengths_below k ps

-- each part has k loops at least
abbrev pub AllReach : ℕ → List Part → Type 0
AllReach k [] = Unit {0}
AllReach k (p ∷ ps) = k ≤ length p × AllReach k ps

-- so many parts, each of which has k loops at least
abbrev pub HaveLoops : ℕ → ℕ → List Part → Type 0
HaveLoops k n ps = (length ps ≡ n) × AllReach k ps

-- as many numbers, each no less
abbrev pub EachAtMost : List ℕ → List ℕ → Type 0
EachAtMost [] [] = Unit {0}
EachAtMost (k ∷ ks) (l ∷ ls) = k ≤ l × EachAtMost ks ls
EachAtMost _ _ = ⊥

-- sizes are at least 1, a permutation is one, and there is a count
abbrev pub ArgumentFits : Transformation → Type 0
ArgumentFits (tile ss) = AllPositive ss
ArgumentFits (interchange ps) = IsOrder ps
ArgumentFits (split cs) = 0 < length cs
ArgumentFits _ = Unit {0}

-- a directive or an item other than `fuse`
abbrev pub IsNoFuse : Plan → Type 0
IsNoFuse (plan (fuse r) w) = ⊥
IsNoFuse _ = Unit {0}

abbrev mutual
  pub ArgumentsFit : Plan → Type 0
  ArgumentsFit (plan c w) = ArgumentFits c × ItemsFit w

  pub ItemsFit : Applied → Type 0
  ItemsFit none_applied = Unit {0}
  ItemsFit (applied_at p d w) = IsNoFuse d × ArgumentsFit d × ItemsFit w
