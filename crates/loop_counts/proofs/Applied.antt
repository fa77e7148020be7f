-- What the items that a loop has left make of parts.
use Rattle.std.proofs.Common.{◌≡◌, ◌∙◌, refl, sym, ap, ◌<◌, ◌≤◌, ◌+◌, ℕ, List, map, length, drop, slice_index_or, Some, None}
use Rattle.c_tree.proofs.Walks.{rest_more, rest_none}
use Rattle.c_semantics.specs.Loops.Transformations as t
use Rattle.canonical_nests.specs.Kinds.{Part, at_part, below_loops, on_position, plan_kinds, applied_kinds}
use Rattle.canonical_nests.specs.LoopRules.PlacedPlans.{forget_plan, forget_items}
use Rattle.canonical_nests.specs.Plans.{seen_plan, seen_item, gather, part_of, loops_above}
use Rattle.canonical_nests.specs.declared.plan.Applied.{Applied, out-Applied}
use Rattle.canonical_nests.proofs.Applied.{seen_item_out}

pub position_is : (c : t.Transformation) (p k : ℕ) (f : ℕ → List Part → List Part) (ps : List Part)
    → on_position c p k f ps ≡ at_part (part_of c p) (below_loops (loops_above c p) k f) ps
position_is (t.tile ss) p k f ps = refl
position_is (t.interchange qs) p k f ps = refl
position_is t.reverse_ p k f ps = refl
position_is (t.split cs) p k f ps = refl
position_is (t.fuse None) p k f ps = refl
position_is (t.fuse (Some r)) p k f ps = refl
position_is t.unroll_full p k f ps = refl
position_is (t.unroll_partial n) p k f ps = refl

-- the next item, and then the rest
pub items_more : (c : t.Transformation) (k : ℕ) (ps : List Part) (xs : List Applied) (i : ℕ) (x : Applied) → i < length xs → x ≡ slice_index_or xs i x
    → applied_kinds c (forget_items (gather (map seen_item (drop i xs)))) k ps
    ≡ applied_kinds c (forget_items (gather (map seen_item (drop (i + 1) xs)))) k
    (at_part (part_of c (out-Applied x).position) (below_loops (loops_above c (out-Applied x).position) k (plan_kinds (forget_plan (seen_plan (out-Applied x).plan)))) ps)
items_more c k ps xs i x within is =
    rest_more (λ ys. applied_kinds c (forget_items (gather (map seen_item ys))) k ps) xs i x within is
    ∙ (ap (λ y. applied_kinds c (forget_items (gather (map seen_item (drop (i + 1) xs)))) k (on_position c y.0 k (plan_kinds (forget_plan y.1)) ps)) (seen_item_out x)
    ∙ ap (applied_kinds c (forget_items (gather (map seen_item (drop (i + 1) xs)))) k) (position_is c (out-Applied x).position k (plan_kinds (forget_plan (seen_plan (out-Applied x).plan))) ps))

pub items_end : (c : t.Transformation) (k : ℕ) (ps : List Part) (xs : List Applied) (i : ℕ) → length xs ≤ i
    → applied_kinds c (forget_items (gather (map seen_item (drop i xs)))) k ps ≡ ps
items_end c k ps xs i = rest_none (λ ys. applied_kinds c (forget_items (gather (map seen_item ys))) k ps) xs i

-- one item more, which makes these parts of those so far
pub item_step : (c : t.Transformation) (k : ℕ) (xs : List Applied) (i : ℕ) (x : Applied) (ps next all : List Part) (part below : ℕ)
    → i < length xs → x ≡ slice_index_or xs i x → part ≡ part_of c (out-Applied x).position → below ≡ loops_above c (out-Applied x).position
    → next ≡ at_part part (below_loops below k (plan_kinds (forget_plan (seen_plan (out-Applied x).plan)))) ps
    → applied_kinds c (forget_items (gather (map seen_item (drop i xs)))) k ps ≡ all
    → applied_kinds c (forget_items (gather (map seen_item (drop (i + 1) xs)))) k next ≡ all
item_step c k xs i x ps next all part below within is part_is below_is next_is all_is =
    ap (applied_kinds c (forget_items (gather (map seen_item (drop (i + 1) xs)))) k)
    (next_is ∙ (λ j. at_part (part_is j) (below_loops (below_is j) k (plan_kinds (forget_plan (seen_plan (out-Applied x).plan)))) ps))
    ∙ (sym (items_more c k ps xs i x within is) ∙ all_is)

pub ruleset applied = (items_more, items_end)
