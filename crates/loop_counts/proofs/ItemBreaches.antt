-- The least breach of the items that a loop has left.
use Rattle.std.proofs.Common.{◌≡◌, ◌∙◌, refl, sym, ap, ◌<◌, ◌≤◌, ◌+◌, ℕ, List, map, length, drop, slice_index_or, Option, Some, None, arith}
use Rattle.c_tree.proofs.Walks.{rest_more, rest_none}
use Rattle.c_semantics.specs.Loops.Transformations as t
use Rattle.canonical_nests.specs.Kinds.{Part, at_part, below_loops, on_position, plan_kinds}
use Rattle.canonical_nests.specs.Weight.{loops_round, part_of_position}
use Rattle.canonical_nests.specs.LoopRules.PlacedPlans.{PlacedPlan, plan, forget_plan}
use Rattle.canonical_nests.specs.LoopRules.BreachSets.{least, lesser}
use Rattle.canonical_nests.specs.LoopRules.Counts.{plan_breaches, items_breaches}
use Rattle.canonical_nests.specs.Plans.{seen_transformation, seen_plan, seen_item, plan_layer, applied_layer, gather, part_of, loops_above}
use Rattle.canonical_nests.specs.declared.rules.LoopBreach.{LoopBreach}
use Rattle.canonical_nests.specs.declared.plan.Applied.{Applied, out-Applied}
use Rattle.canonical_nests.specs.declared.plan.Plan.{Plan, roll-Plan, out-Plan, roll-out-Plan, fold-roll-Plan}
use Rattle.canonical_nests.specs.declared.plan.Transformation.{Transformation}
use Rattle.canonical_nests.proofs.Applied.{seen_item_out}
use Rattle.canonical_nests.proofs.Order.{lesser_joins, lesser_none}
use Rattle.loop_counts.proofs.Applied.{position_is}

no_more : (k : ℕ) → k ≡ k + 0
no_more k = omega arith

pub round_is : (c : t.Transformation) (k p : ℕ) → loops_round c k p ≡ k + loops_above c p
round_is (t.tile ss) k p = refl
round_is (t.interchange qs) k p = refl
round_is t.reverse_ k p = refl
round_is (t.split cs) k p = no_more k
round_is (t.fuse None) k p = refl
round_is (t.fuse (Some r)) k p = refl
round_is t.unroll_full k p = refl
round_is (t.unroll_partial n) k p = refl

pub parts_from : (c : t.Transformation) (p : ℕ) (ps : List Part) → part_of_position c p ps ≡ drop (part_of c p) ps
parts_from (t.tile ss) p ps = refl
parts_from (t.interchange qs) p ps = refl
parts_from t.reverse_ p ps = refl
parts_from (t.split cs) p ps = refl
parts_from (t.fuse None) p ps = refl
parts_from (t.fuse (Some r)) p ps = refl
parts_from t.unroll_full p ps = refl
parts_from (t.unroll_partial n) p ps = refl

module _ (c : t.Transformation) (k : ℕ) (xs : List Applied) (i : ℕ) (x : Applied) (within : i < length xs) (is : x ≡ slice_index_or xs i x) where
  abbrev placed : PlacedPlan
  placed = seen_plan (out-Applied x).plan

  abbrev at : ℕ
  at = (out-Applied x).position

  here : (ps : List Part) → least (items_breaches c (gather (map seen_item (drop i xs))) k ps)
      ≡ lesser (least (plan_breaches placed (k + loops_above c at) (drop (part_of c at) ps)))
      (least (items_breaches c (gather (map seen_item (drop (i + 1) xs))) k (at_part (part_of c at) (below_loops (loops_above c at) k (plan_kinds (forget_plan placed))) ps)))
  here ps =
      rest_more (λ ys. least (items_breaches c (gather (map seen_item ys)) k ps)) xs i x within is
      ∙ (ap (λ y. lesser (least (plan_breaches y.1 (loops_round c k y.0) (part_of_position c y.0 ps)))
      (least (items_breaches c (gather (map seen_item (drop (i + 1) xs))) k (on_position c y.0 k (plan_kinds (forget_plan y.1)) ps)))) (seen_item_out x)
      ∙ (λ j. lesser (least (plan_breaches placed (round_is c k at j) (parts_from c at ps j)))
      (least (items_breaches c (gather (map seen_item (drop (i + 1) xs))) k (position_is c at k (plan_kinds (forget_plan placed)) ps j)))))

  -- one item more, with its breach and the parts that it makes
  pub item_step : (ps next : List Part) (found own all : Option LoopBreach) (round part below : ℕ)
      → round ≡ k + below → part ≡ part_of c at → below ≡ loops_above c at
      → own ≡ least (plan_breaches placed round (drop part ps))
      → next ≡ at_part part (below_loops below k (plan_kinds (forget_plan placed))) ps
      → lesser found (least (items_breaches c (gather (map seen_item (drop i xs))) k ps)) ≡ all
      → lesser (lesser found own) (least (items_breaches c (gather (map seen_item (drop (i + 1) xs))) k next)) ≡ all
  item_step ps next found own all round part below round_here part_here below_here own_is next_is all_is =
      let rest : List Part → Option LoopBreach = λ qs. least (items_breaches c (gather (map seen_item (drop (i + 1) xs))) k qs) in
      let own_at : own ≡ least (plan_breaches placed (k + loops_above c at) (drop (part_of c at) ps)) =
      own_is ∙ (ap (λ n. least (plan_breaches placed n (drop part ps))) round_here ∙ (λ j. least (plan_breaches placed (k + below_here j) (drop (part_here j) ps)))) in
      let next_at : next ≡ at_part (part_of c at) (below_loops (loops_above c at) k (plan_kinds (forget_plan placed))) ps =
      next_is ∙ (λ j. at_part (part_here j) (below_loops (below_here j) k (plan_kinds (forget_plan placed))) ps) in
      lesser_joins found own (rest next)
      ∙ ((λ j. lesser found (lesser (own_at j) (rest (next_at j))))
      ∙ (ap (lesser found) (sym (here ps)) ∙ all_is))

pub items_end : (c : t.Transformation) (k : ℕ) (xs : List Applied) (i : ℕ) (ps : List Part) (found : Option LoopBreach) → length xs ≤ i
    → lesser found (least (items_breaches c (gather (map seen_item (drop i xs))) k ps)) ≡ found
items_end c k xs i ps found le =
    ap (lesser found) (rest_none (λ ys. least (items_breaches c (gather (map seen_item ys)) k ps)) xs i le) ∙ lesser_none found

-- ---- a plan, by its fields

seen_plan_roll : (c : Transformation) (at : ℕ) (is : List Applied) → seen_plan (roll-Plan (record { transformation = c; place = at; items = is })) ≡ plan (seen_transformation c) at (gather (map seen_item is))
seen_plan_roll c at is = fold-roll-Plan (ℕ × PlacedPlan) PlacedPlan applied_layer plan_layer (record { transformation = c; place = at; items = is })

pub seen_plan_out : (p : Plan) → seen_plan p ≡ plan (seen_transformation (out-Plan p).transformation) (out-Plan p).place (gather (map seen_item (out-Plan p).items))
seen_plan_out p = ap seen_plan (sym (roll-out-Plan p)) ∙ seen_plan_roll (out-Plan p).transformation (out-Plan p).place (out-Plan p).items

pub ruleset item_breaches = (items_end)
