-- What a search for the first directive or item that isn't carried out yet has left: that of the next element, else that
-- of the rest.
use Rattle.std.proofs.Common.{◌≡◌, ◌<◌, ◌≤◌, ◌+◌, ℕ, List, length, map, drop, slice_index_or, None}
use Rattle.std.specs.Option.{option_or}
use Rattle.c_tree.specs.PlacedOf.{placed_clause, placed_clauses, placed_item, placed_items, placed_stmt, placed_stmts, placed_top}
use Rattle.c_tree.specs.declared.tree.Clause.{Clause}
use Rattle.c_tree.specs.declared.tree.ApplyItem.{ApplyItem}
use Rattle.c_tree.specs.declared.tree.Stmt.{Stmt}
use Rattle.c_tree.specs.declared.tree.Item.{Item}
use Rattle.c_tree.proofs.Walks.{rest_more, rest_none}
use Rattle.translator.specs.Unbuilt.{clause_unbuilt, clauses_unbuilt, item_unbuilt, items_unbuilt, stmt_unbuilt, stmts_unbuilt, top_unbuilt, first_unbuilt}

pub clauses_more : (xs : List Clause) (i : ℕ) (x : Clause) → i < length xs → x ≡ slice_index_or xs i x
    → clauses_unbuilt (placed_clauses (drop i xs)) ≡ option_or (clause_unbuilt (placed_clause x)) (clauses_unbuilt (placed_clauses (drop (i + 1) xs)))
clauses_more xs i = rest_more (λ ys. clauses_unbuilt (placed_clauses ys)) xs i

pub clauses_end : (xs : List Clause) (i : ℕ) → length xs ≤ i → clauses_unbuilt (placed_clauses (drop i xs)) ≡ None
clauses_end xs i = rest_none (λ ys. clauses_unbuilt (placed_clauses ys)) xs i

pub items_more : (xs : List ApplyItem) (i : ℕ) (x : ApplyItem) → i < length xs → x ≡ slice_index_or xs i x
    → items_unbuilt (placed_items (drop i xs)) ≡ option_or (item_unbuilt (placed_item x)) (items_unbuilt (placed_items (drop (i + 1) xs)))
items_more xs i = rest_more (λ ys. items_unbuilt (placed_items ys)) xs i

pub items_end : (xs : List ApplyItem) (i : ℕ) → length xs ≤ i → items_unbuilt (placed_items (drop i xs)) ≡ None
items_end xs i = rest_none (λ ys. items_unbuilt (placed_items ys)) xs i

pub stmts_more : (xs : List Stmt) (i : ℕ) (x : Stmt) → i < length xs → x ≡ slice_index_or xs i x
    → stmts_unbuilt (placed_stmts (drop i xs)) ≡ option_or (stmt_unbuilt (placed_stmt x)) (stmts_unbuilt (placed_stmts (drop (i + 1) xs)))
stmts_more xs i = rest_more (λ ys. stmts_unbuilt (placed_stmts ys)) xs i

pub stmts_end : (xs : List Stmt) (i : ℕ) → length xs ≤ i → stmts_unbuilt (placed_stmts (drop i xs)) ≡ None
stmts_end xs i = rest_none (λ ys. stmts_unbuilt (placed_stmts ys)) xs i

pub tops_more : (xs : List Item) (i : ℕ) (x : Item) → i < length xs → x ≡ slice_index_or xs i x
    → first_unbuilt (map placed_top (drop i xs)) ≡ option_or (top_unbuilt (placed_top x)) (first_unbuilt (map placed_top (drop (i + 1) xs)))
tops_more xs i = rest_more (λ ys. first_unbuilt (map placed_top ys)) xs i

pub tops_end : (xs : List Item) (i : ℕ) → length xs ≤ i → first_unbuilt (map placed_top (drop i xs)) ≡ None
tops_end xs i = rest_none (λ ys. first_unbuilt (map placed_top ys)) xs i

pub ruleset unbuilt = (clauses_more, clauses_end, items_more, items_end, stmts_more, stmts_end, tops_more, tops_end)
