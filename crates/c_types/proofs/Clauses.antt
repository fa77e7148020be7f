-- What a loop over the parts of a directive has left.
use Rattle.std.proofs.Common.{◌≡◌, ◌∙◌, sym, ap, ℕ, ◌+◌, ◌<◌, ◌≤◌, List, length, map, drop, slice_index_or, None}
use Rattle.std.proofs.lemmas.List.{at_drop_more, drop_all}
use Rattle.c_tree.specs.NameRules.BreachSets.{lesser, least}
use Rattle.c_tree.specs.NameRules.Scopes.{Scope}
use Rattle.c_tree.specs.NameRules.Breaches.{count_breaches, counts_breaches, clauses_breaches, clause_breaches, items_breaches, item_breaches}
use Rattle.c_tree.specs.PlacedOf.{placed_count, placed_clause, placed_clauses, placed_item, placed_items}
use Rattle.c_tree.specs.declared.tree.Count.{Count}
use Rattle.c_tree.specs.declared.tree.Clause.{Clause}
use Rattle.c_tree.specs.declared.tree.ApplyItem.{ApplyItem}
use Rattle.c_types.proofs.Order.{lesser_joins, lesser_none}

module _ (s : Scope) where
  pub counts_more : (xs : List Count) (i : ℕ) (x : Count) → i < length xs → x ≡ slice_index_or xs i x → least (counts_breaches s (map placed_count (drop i xs))) ≡ lesser (least (count_breaches s (placed_count x))) (least (counts_breaches s (map placed_count (drop (i + 1) xs))))
  counts_more xs i x h at = at_drop_more (λ ys. least (counts_breaches s (map placed_count ys))) xs i x h ∙ ap (λ y. lesser (least (count_breaches s (placed_count y))) (least (counts_breaches s (map placed_count (drop (i + 1) xs))))) (sym at)

  pub counts_end : (xs : List Count) (i : ℕ) → length xs ≤ i → least (counts_breaches s (map placed_count (drop i xs))) ≡ None
  counts_end xs i h = ap (λ ys. least (counts_breaches s (map placed_count ys))) (drop_all i xs h)

  pub clauses_more : (xs : List Clause) (i : ℕ) (x : Clause) → i < length xs → x ≡ slice_index_or xs i x → least (clauses_breaches s (placed_clauses (drop i xs))) ≡ lesser (least (clause_breaches s (placed_clause x))) (least (clauses_breaches s (placed_clauses (drop (i + 1) xs))))
  clauses_more xs i x h at = at_drop_more (λ ys. least (clauses_breaches s (placed_clauses ys))) xs i x h ∙ ap (λ y. lesser (least (clause_breaches s (placed_clause y))) (least (clauses_breaches s (placed_clauses (drop (i + 1) xs))))) (sym at)

  pub clauses_end : (xs : List Clause) (i : ℕ) → length xs ≤ i → least (clauses_breaches s (placed_clauses (drop i xs))) ≡ None
  clauses_end xs i h = ap (λ ys. least (clauses_breaches s (placed_clauses ys))) (drop_all i xs h)

  pub items_more : (xs : List ApplyItem) (i : ℕ) (x : ApplyItem) → i < length xs → x ≡ slice_index_or xs i x → least (items_breaches s (placed_items (drop i xs))) ≡ lesser (least (item_breaches s (placed_item x))) (least (items_breaches s (placed_items (drop (i + 1) xs))))
  items_more xs i x h at = at_drop_more (λ ys. least (items_breaches s (placed_items ys))) xs i x h ∙ ap (λ y. lesser (least (item_breaches s (placed_item y))) (least (items_breaches s (placed_items (drop (i + 1) xs))))) (sym at)

  pub items_end : (xs : List ApplyItem) (i : ℕ) → length xs ≤ i → least (items_breaches s (placed_items (drop i xs))) ≡ None
  items_end xs i h = ap (λ ys. least (items_breaches s (placed_items ys))) (drop_all i xs h)

pub ruleset clauses = (counts_more, counts_end, clauses_more, clauses_end, items_more, items_end, lesser_joins, lesser_none)
