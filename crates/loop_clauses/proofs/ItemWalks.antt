-- What a loop over the items of an `apply` clause has left.
use Rattle.std.proofs.Common.{◌≡◌, ◌∙◌, sym, ap, refl, ◌<◌, ◌≤◌, ◌+◌, ℕ, suc, List, [], ◌∷◌, ◌++◌, length, drop, get_or, slice_index_or, false, ◌||◌}
use Rattle.std.specs.List.{list_any}
use Rattle.std.proofs.lemmas.List.{at_drop_more, drop_all}
use Rattle.c_tree.specs.Placed as p
use Rattle.c_tree.specs.PlacedOf.{placed_item, placed_items}
use Rattle.c_tree.specs.declared.tree.ApplyItem.{ApplyItem}
use Rattle.c_tree.proofs.Walks.{rest_more, rest_none}
use Rattle.canonical_nests.specs.LoopRules.Clauses.{is_fuse, item_list, positions_put}
use Rattle.loop_clauses.specs.Items.{put_one}

pub length_of_items : (xs : List ApplyItem) → length (item_list (placed_items xs)) ≡ length xs
length_of_items [] = refl
length_of_items (x ∷ xs) = ap suc (length_of_items xs)

pub fuse_more : (xs : List ApplyItem) (i : ℕ) (x : ApplyItem) → i < length xs → x ≡ slice_index_or xs i x
    → list_any is_fuse (item_list (placed_items (drop i xs))) ≡ (is_fuse (placed_item x) || list_any is_fuse (item_list (placed_items (drop (i + 1) xs))))
fuse_more xs i = rest_more (λ ys. list_any is_fuse (item_list (placed_items ys))) xs i

pub fuse_end : (xs : List ApplyItem) (i : ℕ) → length xs ≤ i → list_any is_fuse (item_list (placed_items (drop i xs))) ≡ false
fuse_end xs i = rest_none (λ ys. list_any is_fuse (item_list (placed_items ys))) xs i

-- ---- positions

put_none : (n : ℕ) (is : List p.Item) → positions_put n [] is ≡ []
put_none n [] = refl
put_none n (i ∷ is) = refl

pub put_past : (n : ℕ) (ns : List ℕ) (i : ℕ) (is : List p.Item) → length ns ≤ i → positions_put n (drop i ns) is ≡ []
put_past n ns i is past = ap (λ ks. positions_put n ks is) (drop_all i ns past) ∙ put_none n is

put_step : (n k : ℕ) (ns : List ℕ) (i : p.Item) (is : List p.Item) → positions_put n (k ∷ ns) (i ∷ is) ≡ put_one n k i ++ positions_put n ns is
put_step n k ns (p.nothing s) is = refl
put_step n k ns (p.acts d) is = refl

pub put_more : (n : ℕ) (ns : List ℕ) (k : ℕ) (xs : List ApplyItem) (i : ℕ) (x : ApplyItem) → i < length ns → k ≡ get_or ns i 0 → i < length xs → x ≡ slice_index_or xs i x
    → positions_put n (drop i ns) (item_list (placed_items (drop i xs))) ≡ put_one n k (placed_item x) ++ positions_put n (drop (i + 1) ns) (item_list (placed_items (drop (i + 1) xs)))
put_more n ns k xs i x inside is_k within is =
    rest_more (λ ys. positions_put n (drop i ns) (item_list (placed_items ys))) xs i x within is
    ∙ (at_drop_more (λ ks. positions_put n ks (placed_item x ∷ item_list (placed_items (drop (i + 1) xs)))) ns i 0 inside
    ∙ (ap (λ j. positions_put n (j ∷ drop (i + 1) ns) (placed_item x ∷ item_list (placed_items (drop (i + 1) xs)))) (sym is_k)
    ∙ put_step n k (drop (i + 1) ns) (placed_item x) (item_list (placed_items (drop (i + 1) xs)))))

pub put_end : (n : ℕ) (ns : List ℕ) (xs : List ApplyItem) (i : ℕ) → length xs ≤ i → positions_put n (drop i ns) (item_list (placed_items (drop i xs))) ≡ []
put_end n ns xs i past = rest_none (λ ys. positions_put n (drop i ns) (item_list (placed_items ys))) xs i past ∙ put_nothing (drop i ns)
  where
    put_nothing : (ks : List ℕ) → positions_put n ks [] ≡ []
    put_nothing [] = refl
    put_nothing (k ∷ ks) = refl

pub ruleset item_walks = (length_of_items, fuse_more, fuse_end, put_past, put_more, put_end)
