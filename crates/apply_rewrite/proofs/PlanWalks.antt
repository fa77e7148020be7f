-- What plans make of code, and what a walk over items has left.
use Rattle.std.proofs.Common.{◌≡◌, ◌∙◌, sym, ap, ◌<◌, ◌≤◌, ◌+◌, ℕ, List, map, length, drop, slice_index_or}
use Rattle.c_tree.proofs.Walks.{rest_more, rest_none}
use Rattle.canonical_nests.specs.LoopRules.PlacedPlans.{forget_plan, forget_items}
use Rattle.canonical_nests.specs.Plans.{seen_transformation, seen_plan, seen_item, gather}
use Rattle.canonical_nests.specs.declared.plan.Applied.{Applied, out-Applied}
use Rattle.canonical_nests.specs.declared.plan.Plan.{Plan, out-Plan}
use Rattle.canonical_nests.proofs.Applied.{seen_item_out}
use Rattle.canonical_nests.proofs.Planned.{seen_plan_out}
use Rattle.loop_normal.specs.Gens.{Gen}
use Rattle.carried_out.specs.CarriedOut.{Made, transformed, planned, items_applied}

-- ---- what items make of code

same_made : (m n : Made Gen) → m.tree ≡ n.tree → m.left ≡ n.left → m ≡ n
same_made m n e h = λ i. record { tree = e i; left = h i }

-- one item more
pub items_step : (xs : List Applied) (i : ℕ) (x : Applied) (m next all : Made Gen) → i < length xs → x ≡ slice_index_or xs i x
    → next.tree ≡ (planned (forget_plan (seen_plan (out-Applied x).plan)) m).tree → next.left ≡ (planned (forget_plan (seen_plan (out-Applied x).plan)) m).left
    → items_applied (forget_items (gather (map seen_item (drop i xs)))) m ≡ all
    → items_applied (forget_items (gather (map seen_item (drop (i + 1) xs)))) next ≡ all
items_step xs i x m next all within is tree left so =
    ap (items_applied (forget_items (gather (map seen_item (drop (i + 1) xs))))) (same_made next (planned (forget_plan (seen_plan (out-Applied x).plan)) m) tree left)
    ∙ sym (ap (λ y. items_applied (forget_items (gather (map seen_item (drop (i + 1) xs)))) (planned (forget_plan y.1) m)) (seen_item_out x))
    ∙ sym (rest_more (λ ys. items_applied (forget_items (gather (map seen_item ys))) m) xs i x within is) ∙ so

-- the plan itself: its transformation, then its items
pub plan_made : (p : Plan) (m : Made Gen) → planned (forget_plan (seen_plan p)) m ≡ items_applied (forget_items (gather (map seen_item (out-Plan p).items))) (transformed (seen_transformation (out-Plan p).transformation) m)
plan_made p m = ap (λ q. planned (forget_plan q) m) (seen_plan_out p)

pub items_end : (m : Made Gen) (xs : List Applied) (i : ℕ) → length xs ≤ i → items_applied (forget_items (gather (map seen_item (drop i xs)))) m ≡ m
items_end m xs i = rest_none (λ ys. items_applied (forget_items (gather (map seen_item ys))) m) xs i

pub end_tree : (m all : Made Gen) (xs : List Applied) (i : ℕ) → length xs ≤ i → items_applied (forget_items (gather (map seen_item (drop i xs)))) m ≡ all → m.tree ≡ all.tree
end_tree m all xs i past so = ap (λ n. n.tree) (sym (items_end m xs i past) ∙ so)

pub end_left : (m all : Made Gen) (xs : List Applied) (i : ℕ) → length xs ≤ i → items_applied (forget_items (gather (map seen_item (drop i xs)))) m ≡ all → m.left ≡ all.left
end_left m all xs i past so = ap (λ n. n.left) (sym (items_end m xs i past) ∙ so)

pub ruleset applied = (end_tree, end_left)

pub ruleset made = (plan_made)
