-- What the depth of a part is, where the number of the body's loops is left open.
use Rattle.std.specs.Prelude.{ℕ, ◌+◌, ◌-◌, List, map, max, Option, Some, None, Bool, false, nat_le, if◌then◌else◌}
use Rattle.c_semantics.specs.Loops.Transformations.{Transformation, fuse}
use Rattle.c_semantics.specs.Loops.Need.{takes}
use Rattle.canonical_nests.specs.declared.body_depths.Depth.{Depth}
use Rattle.canonical_nests.specs.declared.body_depths.Depth.TheVariants.{Follows, Fixed}
use Rattle.canonical_nests.specs.declared.body_depths.Parts.{Parts}

-- over a body of k loops
abbrev pub depth_over : ℕ → Depth → ℕ
depth_over k (Follows less more) = (k - less) + more
depth_over k (Fixed n) = n

abbrev pub depths_over : ℕ → List Depth → List ℕ
depths_over k ds = map (depth_over k) ds

-- a fact that holds from a number on, or never
abbrev pub holds_from : Option ℕ → ℕ → Bool
holds_from None k = false
holds_from (Some least) k = nat_le least k

-- the depths of the parts, where the loops that are taken are found
abbrev pub parts_over : ℕ → Option Parts → Option (List ℕ)
parts_over k None = None
parts_over k (Some p) = if nat_le p.least k then Some (depths_over k p.depths.items) else None

-- of the numbers from this one on, the least that a directive tries: no fewer than it takes, and for `fuse` only 1
abbrev pub least_tried_from : Transformation → Option ℕ → Option ℕ
least_tried_from c None = None
least_tried_from (fuse r) (Some least) = if nat_le least 1 then Some 1 else None
least_tried_from c (Some least) = Some (max (takes c) least)
