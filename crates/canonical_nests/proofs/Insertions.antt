-- An item put into a list at its place.
use Rattle.std.proofs.Common.{◌≡◌, ◌∙◌, refl, sym, ap, ◌<◌, ◌≤◌, ◌+◌, ℕ, zero, suc, List, [], ◌∷◌, ◌++◌, map, length, take, drop, slice_index_or, Bool, true, false, nat_lt, arith}
use Rattle.std.specs.Prelude.{if◌then◌else◌}
use Rattle.c_tree.proofs.Walks.{rest_more, rest_none}
use Rattle.canonical_nests.specs.LoopRules.PlacedPlans.{PlacedPlan, PlacedItems, applied_at, insert}
use Rattle.canonical_nests.specs.Plans.{seen_plan, seen_item, gather, place_among}
use Rattle.canonical_nests.specs.declared.plan.Applied.{Applied, roll-Applied, out-Applied}
use Rattle.canonical_nests.specs.declared.plan.Plan.{Plan}
use Rattle.canonical_nests.proofs.Applied.{seen_item_roll, seen_item_out}

abbrev Placed : Type 0
Placed = ℕ × PlacedPlan

-- ---- the search for the place

pub place_more : (p : ℕ) (xs : List Applied) (i : ℕ) (x : Applied) → i < length xs → x ≡ slice_index_or xs i x
    → place_among p (map seen_item (drop i xs)) ≡ (if nat_lt (out-Applied x).position p then 0 else suc (place_among p (map seen_item (drop (i + 1) xs))))
place_more p xs i x within is =
    rest_more (λ ys. place_among p (map seen_item ys)) xs i x within is
    ∙ ap (λ y. if nat_lt y.0 p then 0 else suc (place_among p (map seen_item (drop (i + 1) xs)))) (seen_item_out x)

pub place_end : (p : ℕ) (xs : List Applied) (i : ℕ) → length xs ≤ i → place_among p (map seen_item (drop i xs)) ≡ 0
place_end p xs i = rest_none (λ ys. place_among p (map seen_item ys)) xs i

-- ---- the list with the item

put_in : (f : Applied → Placed) (n : ℕ) (xs : List Applied) (x : Applied) → map f (take n xs ++ x ∷ drop n xs) ≡ take n (map f xs) ++ f x ∷ drop n (map f xs)
put_in f zero [] x = refl
put_in f zero (y ∷ ys) x = refl
put_in f (suc n) [] x = refl
put_in f (suc n) (y ∷ ys) x = ap (λ zs. f y ∷ zs) (put_in f n ys x)

at_place : (p : ℕ) (d : PlacedPlan) (ys : List Placed) → gather (take (place_among p ys) ys ++ (p, d) ∷ drop (place_among p ys) ys) ≡ insert p d (gather ys)
at_place p d [] = refl
at_place p d (y ∷ ys) = either (at_place p d ys) (nat_lt y.0 p)
  where
    either : gather (take (place_among p ys) ys ++ (p, d) ∷ drop (place_among p ys) ys) ≡ insert p d (gather ys) → (b : Bool)
        → gather (take (if b then 0 else suc (place_among p ys)) (y ∷ ys) ++ (p, d) ∷ drop (if b then 0 else suc (place_among p ys)) (y ∷ ys))
        ≡ (if b then applied_at p d (applied_at y.0 y.1 (gather ys)) else applied_at y.0 y.1 (insert p d (gather ys)))
    either is true = refl
    either is false = ap (applied_at y.0 y.1) is

pub inserted : (p : ℕ) (d : Plan) (xs : List Applied) (n : ℕ) → n ≡ place_among p (map seen_item xs)
    → gather (map seen_item (take n xs ++ roll-Applied (record { position = p; plan = d }) ∷ drop n xs)) ≡ insert p (seen_plan d) (gather (map seen_item xs))
inserted p d xs n at_is =
    ap gather (put_in seen_item n xs (roll-Applied (record { position = p; plan = d })))
    ∙ ((λ i. gather (take (at_is i) (map seen_item xs) ++ seen_item_roll p d i ∷ drop (at_is i) (map seen_item xs)))
    ∙ at_place p (seen_plan d) (map seen_item xs))

pub ruleset insertions = (place_more, place_end)
