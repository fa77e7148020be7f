-- A directive over a part, and what a loop over its items has left.
use Rattle.std.proofs.Common.{◌≡◌, ◌∙◌, ap, refl, ◌<◌, ◌≤◌, ◌+◌, ◌≢◌, ℕ, zero, suc, List, [], ◌∷◌, map, length, drop, slice_index_or, Some, None, nat_lt, true}
use Rattle.c_tree.proofs.Walks.{rest_more, rest_none}
use Rattle.c_semantics.specs.Loops.Transformations as t
use Rattle.c_semantics.specs.Loops.Need.{takes, transformed_depths}
use Rattle.canonical_nests.specs.declared.rules.LoopBreach.{LoopBreach}
use Rattle.canonical_nests.specs.declared.rules.LoopRule.TheVariants.{L7, L22}
use Rattle.canonical_nests.specs.LoopRules.BreachSets.{least, breach_if}
use Rattle.canonical_nests.specs.LoopRules.PlacedPlans.{PlacedPlan, PlacedItems, applied_at}
use Rattle.canonical_nests.specs.LoopRules.Structure.{depth_breaches, depth_at, after_item, plan_breaches, items_breaches}
use Rattle.canonical_nests.specs.Plans.{seen_transformation, seen_plan, seen_item, gather}
use Rattle.canonical_nests.specs.declared.plan.Plan.{Plan, out-Plan}
use Rattle.canonical_nests.specs.declared.plan.Applied.{Applied, out-Applied}
use Rattle.canonical_nests.proofs.Applied.{seen_item_out}
use Rattle.canonical_nests.proofs.Order.{else_first, else_second}
use Rattle.canonical_nests.proofs.Planned.{seen_plan_out}

pub no_depth : (c : t.Transformation) (at k : ℕ) → k ≡ 0 → depth_breaches c at k ≡ breach_if true L22 at
no_depth c at k is = ap (depth_breaches c at) is

pub some_depth : (c : t.Transformation) (at k : ℕ) → k ≢ 0 → depth_breaches c at k ≡ breach_if (nat_lt k (takes c)) L7 at
some_depth c at zero some = absurd (some refl)
some_depth c at (suc k) some = refl

module _ (p : Plan) (k : ℕ) where
  abbrev own : t.Transformation
  own = seen_transformation (out-Plan p).transformation

  abbrev over : PlacedItems
  over = gather (map seen_item (out-Plan p).items)

  pub plan_first : (b : LoopBreach) → least (depth_breaches own (out-Plan p).place k) ≡ Some b → least (plan_breaches (seen_plan p) k) ≡ Some b
  plan_first b is =
      ap (λ d. least (plan_breaches d k)) (seen_plan_out p)
      ∙ else_first (depth_breaches own (out-Plan p).place k) (items_breaches own over (transformed_depths own (k ∷ []))) b is

  pub plan_second : least (depth_breaches own (out-Plan p).place k) ≡ None
      → least (plan_breaches (seen_plan p) k) ≡ least (items_breaches own over (transformed_depths own (k ∷ [])))
  plan_second is =
      ap (λ d. least (plan_breaches d k)) (seen_plan_out p)
      ∙ else_second (depth_breaches own (out-Plan p).place k) (items_breaches own over (transformed_depths own (k ∷ []))) is

module _ (c : t.Transformation) (ks : List ℕ) (xs : List Applied) (i : ℕ) (x : Applied) (within : i < length xs) (is : x ≡ slice_index_or xs i x) where
  abbrev rest : PlacedItems
  rest = gather (map seen_item (drop (i + 1) xs))

  abbrev item : PlacedPlan
  item = seen_plan (out-Applied x).plan

  next : least (items_breaches c (gather (map seen_item (drop i xs))) ks) ≡ least (items_breaches c (applied_at (out-Applied x).position item rest) ks)
  next =
      rest_more (λ ys. least (items_breaches c (gather (map seen_item ys)) ks)) xs i x within is
      ∙ ap (λ y. least (items_breaches c (applied_at y.0 y.1 rest) ks)) (seen_item_out x)

  pub item_first : (b : LoopBreach) → least (plan_breaches item (depth_at c (out-Applied x).position ks)) ≡ Some b
      → least (items_breaches c (gather (map seen_item (drop i xs))) ks) ≡ Some b
  item_first b found =
      next ∙ else_first (plan_breaches item (depth_at c (out-Applied x).position ks)) (items_breaches c rest (after_item c (out-Applied x).position item ks)) b found

  pub item_second : least (plan_breaches item (depth_at c (out-Applied x).position ks)) ≡ None
      → least (items_breaches c (gather (map seen_item (drop i xs))) ks) ≡ least (items_breaches c rest (after_item c (out-Applied x).position item ks))
  item_second none =
      next ∙ else_second (plan_breaches item (depth_at c (out-Applied x).position ks)) (items_breaches c rest (after_item c (out-Applied x).position item ks)) none

pub items_end : (c : t.Transformation) (ks : List ℕ) (xs : List Applied) (i : ℕ) → length xs ≤ i → least (items_breaches c (gather (map seen_item (drop i xs))) ks) ≡ None
items_end c ks xs i = rest_none (λ ys. least (items_breaches c (gather (map seen_item ys)) ks)) xs i

pub ruleset plan_steps = (no_depth, some_depth, plan_first, plan_second, item_first, item_second, items_end)
