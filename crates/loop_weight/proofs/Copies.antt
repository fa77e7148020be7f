-- The copies that the items make which a loop has left.
use Rattle.std.proofs.Common.{◌≡◌, ◌∙◌, sym, ap, ◌<◌, ◌≤◌, ◌+◌, ◌*◌, ℕ, List, map, min, length, drop, slice_index_or, arith}
use Rattle.c_tree.proofs.Walks.{rest_more, rest_none}
use Rattle.c_semantics.specs.Loops.Transformations as t
use Rattle.canonical_nests.specs.Kinds.{Part, kind_at, transformed_kinds, at_part, below_loops, on_position, plan_kinds}
use Rattle.canonical_nests.specs.Weight.{count_or_one, own_copies, loops_round, part_of_position, copies, applied_copies}
use Rattle.canonical_nests.specs.LoopRules.PlacedPlans.{PlacedPlan, plan, PlacedItems, forget_plan, forget_items}
use Rattle.canonical_nests.specs.Plans.{seen_plan, seen_item, gather, part_of, loops_above}
use Rattle.canonical_nests.specs.declared.nest.CountKind.{CountKind}
use Rattle.canonical_nests.specs.declared.plan.Applied.{Applied, out-Applied}
use Rattle.canonical_nests.proofs.Applied.{seen_item_out}
use Rattle.loop_counts.proofs.Applied.{position_is}
use Rattle.loop_counts.proofs.ItemBreaches.{round_is, parts_from}
use Rattle.loop_counts.proofs.Parts.{kind_there, kind_past}
use Rattle.loop_weight.proofs.Caps.{min_times, min_times_left}

pub count_past : (ks : Part) (n : ℕ) → length ks ≤ n → count_or_one (kind_at ks n) ≡ 1
count_past ks n le = ap count_or_one (kind_past n ks le)

pub count_there : (ks : Part) (n : ℕ) (k : CountKind) → n < length ks → k ≡ slice_index_or ks n k → count_or_one (kind_at ks n) ≡ count_or_one k
count_there ks n k lt is = ap count_or_one (kind_there n ks k lt is)

pub ruleset counts = (count_past, count_there)

joined : (all c n r : ℕ) → n ≡ min c 1048577 → min (min (all * n) 1048577 * r) 1048577 ≡ min (all * (c * r)) 1048577
joined all c n r e =
    let turned : all * n * r ≡ n * (all * r) = grind arith in
    let back : c * (all * r) ≡ all * (c * r) = grind arith in
    min_times_left (all * n) r
    ∙ (ap (λ m. min m 1048577) turned
    ∙ (ap (λ m. min (m * (all * r)) 1048577) e
    ∙ (min_times_left c (all * r) ∙ ap (λ m. min m 1048577) back)))

module _ (c : t.Transformation) (k : ℕ) (xs : List Applied) (i : ℕ) (x : Applied) (within : i < length xs) (is : x ≡ slice_index_or xs i x) where
  abbrev placed : PlacedPlan
  placed = seen_plan (out-Applied x).plan

  abbrev at : ℕ
  at = (out-Applied x).position

  abbrev rest : List Part → ℕ
  rest ps = applied_copies c (forget_items (gather (map seen_item (drop (i + 1) xs)))) k ps

  here : (ps : List Part) → applied_copies c (forget_items (gather (map seen_item (drop i xs)))) k ps
      ≡ copies (forget_plan placed) (k + loops_above c at) (drop (part_of c at) ps)
      * rest (at_part (part_of c at) (below_loops (loops_above c at) k (plan_kinds (forget_plan placed))) ps)
  here ps =
      rest_more (λ ys. applied_copies c (forget_items (gather (map seen_item ys))) k ps) xs i x within is
      ∙ (ap (λ y. copies (forget_plan y.1) (loops_round c k y.0) (part_of_position c y.0 ps) * rest (on_position c y.0 k (plan_kinds (forget_plan y.1)) ps)) (seen_item_out x)
      ∙ (λ j. copies (forget_plan placed) (round_is c k at j) (parts_from c at ps j) * rest (position_is c at k (plan_kinds (forget_plan placed)) ps j)))

  -- one item more, with its copies and the parts that it makes
  pub item_step : (ps next : List Part) (all own total round part below : ℕ)
      → round ≡ k + below → part ≡ part_of c at → below ≡ loops_above c at
      → own ≡ min (copies (forget_plan placed) round (drop part ps)) 1048577
      → next ≡ at_part part (below_loops below k (plan_kinds (forget_plan placed))) ps
      → min (all * applied_copies c (forget_items (gather (map seen_item (drop i xs)))) k ps) 1048577 ≡ total
      → min (min (all * own) 1048577 * applied_copies c (forget_items (gather (map seen_item (drop (i + 1) xs)))) k next) 1048577 ≡ total
  item_step ps next all own total round part below round_here part_here below_here own_is next_is all_is =
      let own_at : own ≡ min (copies (forget_plan placed) (k + loops_above c at) (drop (part_of c at) ps)) 1048577 =
      own_is ∙ (ap (λ n. min (copies (forget_plan placed) n (drop part ps)) 1048577) round_here ∙ (λ j. min (copies (forget_plan placed) (k + below_here j) (drop (part_here j) ps)) 1048577)) in
      let next_at : next ≡ at_part (part_of c at) (below_loops (loops_above c at) k (plan_kinds (forget_plan placed))) ps =
      next_is ∙ (λ j. at_part (part_here j) (below_loops (below_here j) k (plan_kinds (forget_plan placed))) ps) in
      joined all (copies (forget_plan placed) (k + loops_above c at) (drop (part_of c at) ps)) own (rest next) own_at
      ∙ (ap (λ qs. min (all * (copies (forget_plan placed) (k + loops_above c at) (drop (part_of c at) ps) * rest qs)) 1048577) next_at
      ∙ (ap (λ n. min (all * n) 1048577) (sym (here ps)) ∙ all_is))

-- a directive with its items
pub plan_step : (c : t.Transformation) (at : ℕ) (w : PlacedItems) (k : ℕ) (ps : List Part) (own rest all : ℕ) (p : PlacedPlan) → p ≡ plan c at w
    → own ≡ min (own_copies c k ps) 1048577 → rest ≡ min (applied_copies c (forget_items w) k (transformed_kinds c k ps)) 1048577
    → all ≡ min (own * rest) 1048577
    → all ≡ min (copies (forget_plan p) k ps) 1048577
plan_step c at w k ps own rest all p is own_is rest_is all_is =
    all_is
    ∙ ((λ j. min (own_is j * rest_is j) 1048577)
    ∙ (min_times (own_copies c k ps) (applied_copies c (forget_items w) k (transformed_kinds c k ps))
    ∙ sym (ap (λ q. min (copies (forget_plan q) k ps) 1048577) is)))

pub items_end : (c : t.Transformation) (k : ℕ) (xs : List Applied) (i : ℕ) (ps : List Part) → length xs ≤ i
    → applied_copies c (forget_items (gather (map seen_item (drop i xs)))) k ps ≡ 1
items_end c k xs i ps = rest_none (λ ys. applied_copies c (forget_items (gather (map seen_item ys))) k ps) xs i

pub ruleset applied = (items_end)
