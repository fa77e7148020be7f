-- The plan that a plan of the code stands for.
use Rattle.std.specs.Prelude.{ℕ, suc, ◌-◌, List, [], ◌∷◌, Option, Some, None, nat_lt, if◌then◌else◌}
use Rattle.c_semantics.specs.Loops.Transformations as t
use Rattle.canonical_nests.specs.LoopRules.PlacedPlans as p
use Rattle.canonical_nests.specs.declared.plan.Transformation.{Transformation}
use Rattle.canonical_nests.specs.declared.plan.Transformation.TheVariants.{Tile, Interchange, Reverse, Split, Fuse, UnrollFull, UnrollPartial}
use Rattle.canonical_nests.specs.declared.plan.Plan.{Plan, Plan-F, fold-Plan}
use Rattle.canonical_nests.specs.declared.plan.Applied.{Applied, Applied-F, fold-Applied}

abbrev pub seen_transformation : Transformation → t.Transformation
seen_transformation (Tile ss) = t.tile ss
seen_transformation (Interchange ps) = t.interchange ps
seen_transformation Reverse = t.reverse_
seen_transformation (Split cs) = t.split cs
seen_transformation (Fuse r) = t.fuse r
seen_transformation UnrollFull = t.unroll_full
seen_transformation (UnrollPartial f) = t.unroll_partial f

abbrev pub gather : List (ℕ × p.PlacedPlan) → p.PlacedItems
gather [] = p.none_applied
gather (i ∷ is) = p.applied_at i.0 i.1 (gather is)

abbrev pub plan_layer : Plan-F (ℕ × p.PlacedPlan) p.PlacedPlan → p.PlacedPlan
plan_layer x = p.plan (seen_transformation x.transformation) x.place (gather x.items)

abbrev pub applied_layer : Applied-F (ℕ × p.PlacedPlan) p.PlacedPlan → ℕ × p.PlacedPlan
applied_layer x = (x.position, x.plan)

abbrev pub seen_plan : Plan → p.PlacedPlan
seen_plan = fold-Plan (ℕ × p.PlacedPlan) p.PlacedPlan applied_layer plan_layer

abbrev pub seen_item : Applied → ℕ × p.PlacedPlan
seen_item = fold-Applied (ℕ × p.PlacedPlan) p.PlacedPlan applied_layer plan_layer

-- how many items of a list, the last position first, stand before a new one at this position
abbrev pub place_among : ℕ → List (ℕ × p.PlacedPlan) → ℕ
place_among p [] = 0
place_among p (i ∷ is) = if nat_lt i.0 p then 0 else suc (place_among p is)

-- ---- where an item stands: the part, from 0, and how many of its loops stand round the item

abbrev pub part_of : t.Transformation → ℕ → ℕ
part_of (t.split cs) p = p - 1
part_of (t.fuse (Some r)) p = r.0 - 1
part_of _ p = 0

abbrev pub loops_above : t.Transformation → ℕ → ℕ
loops_above (t.split cs) p = 0
loops_above _ p = p - 1

-- the transformation of a plan
abbrev pub own : p.PlacedPlan → t.Transformation
own (p.plan c at w) = c
