-- What the items that a loop has left make of depths.
use Rattle.std.proofs.Common.{◌≡◌, ◌∙◌, refl, sym, ap, ◌<◌, ◌≤◌, ◌+◌, ◌-◌, ℕ, zero, suc, List, [], ◌∷◌, ◌++◌, map, length, take, drop, get_or, slice_index_or, Option, Some, None, arith}
use Rattle.c_tree.proofs.Walks.{rest_more, rest_none}
use Rattle.c_semantics.specs.Loops.Transformations as t
use Rattle.c_semantics.specs.Loops.Need.{if_some, depths, applied_depths, position_depths, part_depths, below_depths}
use Rattle.canonical_nests.specs.LoopRules.PlacedPlans.{PlacedPlan, forget_plan, forget_items}
use Rattle.canonical_nests.specs.Plans.{seen_plan, seen_item, plan_layer, applied_layer, gather, part_of, loops_above}
use Rattle.canonical_nests.specs.declared.plan.Applied.{Applied, roll-Applied, out-Applied, roll-out-Applied, fold-roll-Applied}
use Rattle.canonical_nests.specs.declared.plan.Plan.{Plan}

pub position_is : (c : t.Transformation) (p : ℕ) (f : List ℕ → Option (List ℕ)) (ks : List ℕ)
    → position_depths c p f ks ≡ part_depths (part_of c p) (below_depths (loops_above c p) f) ks
position_is (t.tile ss) p f ks = refl
position_is (t.interchange qs) p f ks = refl
position_is t.reverse_ p f ks = refl
position_is (t.split cs) p f ks = refl
position_is (t.fuse None) p f ks = refl
position_is (t.fuse (Some r)) p f ks = refl
position_is t.unroll_full p f ks = refl
position_is (t.unroll_partial k) p f ks = refl

pub seen_item_roll : (position : ℕ) (plan : Plan) → seen_item (roll-Applied (record { position = position; plan = plan })) ≡ (position, seen_plan plan)
seen_item_roll position plan = fold-roll-Applied (ℕ × PlacedPlan) PlacedPlan applied_layer plan_layer (record { position = position; plan = plan })

pub seen_item_out : (x : Applied) → seen_item x ≡ ((out-Applied x).position, seen_plan (out-Applied x).plan)
seen_item_out x = ap seen_item (sym (roll-out-Applied x)) ∙ seen_item_roll (out-Applied x).position (out-Applied x).plan

-- the next item, and then the rest
pub items_more : (c : t.Transformation) (ks : List ℕ) (xs : List Applied) (i : ℕ) (x : Applied) → i < length xs → x ≡ slice_index_or xs i x
    → applied_depths c (forget_items (gather (map seen_item (drop i xs)))) ks
    ≡ if_some (part_depths (part_of c (out-Applied x).position) (below_depths (loops_above c (out-Applied x).position) (depths (forget_plan (seen_plan (out-Applied x).plan)))) ks)
    (applied_depths c (forget_items (gather (map seen_item (drop (i + 1) xs)))))
items_more c ks xs i x within is =
    rest_more (λ ys. applied_depths c (forget_items (gather (map seen_item ys))) ks) xs i x within is
    ∙ (ap (λ y. if_some (position_depths c y.0 (depths (forget_plan y.1)) ks) (applied_depths c (forget_items (gather (map seen_item (drop (i + 1) xs)))))) (seen_item_out x)
    ∙ ap (λ o. if_some o (applied_depths c (forget_items (gather (map seen_item (drop (i + 1) xs))))))
    (position_is c (out-Applied x).position (depths (forget_plan (seen_plan (out-Applied x).plan))) ks))

pub items_end : (c : t.Transformation) (ks : List ℕ) (xs : List Applied) (i : ℕ) → length xs ≤ i
    → applied_depths c (forget_items (gather (map seen_item (drop i xs)))) ks ≡ Some ks
items_end c ks xs i = rest_none (λ ys. applied_depths c (forget_items (gather (map seen_item ys))) ks) xs i

-- one item more, which makes these depths of those so far
pub item_step : (c : t.Transformation) (xs : List Applied) (i : ℕ) (x : Applied) (ks next : List ℕ) (part below : ℕ) (all : Option (List ℕ))
    → i < length xs → x ≡ slice_index_or xs i x → part ≡ part_of c (out-Applied x).position → below ≡ loops_above c (out-Applied x).position
    → Some next ≡ part_depths part (below_depths below (depths (forget_plan (seen_plan (out-Applied x).plan)))) ks
    → applied_depths c (forget_items (gather (map seen_item (drop i xs)))) ks ≡ all
    → applied_depths c (forget_items (gather (map seen_item (drop (i + 1) xs)))) next ≡ all
item_step c xs i x ks next part below all within is part_is below_is next_is all_is =
    ap (λ o. if_some o (applied_depths c (forget_items (gather (map seen_item (drop (i + 1) xs))))))
    (next_is ∙ (λ j. part_depths (part_is j) (below_depths (below_is j) (depths (forget_plan (seen_plan (out-Applied x).plan)))) ks))
    ∙ (sym (items_more c ks xs i x within is) ∙ all_is)

pub ruleset applied = (items_more, items_end)
