-- The need of a directive is the least number of loops that serves.
use Rattle.std.specs.Prelude.{◌≡◌, ℕ, ◌≤◌, Option, Some, None, IsTrue, IsFalse}
use Rattle.c_semantics.specs.Loops.Transformations.{Transformation, fuse, Plan, plan}
use Rattle.c_semantics.specs.Loops.Need.{takes, serves, need}

-- the numbers of body loops that count: no fewer than the directive takes; for `fuse` only 1
abbrev pub IsTried : Transformation → ℕ → Type 0
IsTried (fuse r) k = k ≡ 1
IsTried c k = takes c ≤ k

-- it serves where each part is to have depth d, and is the least that does; or none does
abbrev pub IsNeed : Plan → ℕ → Option ℕ → Type 0
IsNeed (plan c w) d (Some k) =
    IsTried c k × IsTrue (serves (plan c w) d k) × ((j : ℕ) → IsTried c j → IsTrue (serves (plan c w) d j) → k ≤ j)
IsNeed (plan c w) d None = (j : ℕ) → IsTried c j → IsFalse (serves (plan c w) d j)

abbrev pub LeastNeed : Type 0
LeastNeed = (p : Plan) (d : ℕ) → IsNeed p d (need p d)
