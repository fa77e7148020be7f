-- The height of what a loop has left: that of its next element and of the rest, and 0 at the end.
use Rattle.std.proofs.Common.{◌≡◌, ◌<◌, ◌≤◌, ◌+◌, ℕ, List, ◌∷◌, length, map, max, drop, slice_index_or}
use Rattle.c_tree.specs.BareOf.{bare_expr, bare_exprs, bare_count, bare_clause, bare_clauses, bare_item, bare_items, bare_stmt, bare_stmts, bare_top}
use Rattle.c_tree.specs.Height.{expr_height, exprs_height, counts_height, clause_height, clauses_height, item_height, items_height, stmt_height, stmts_height, top_height, program_height}
use Rattle.c_tree.specs.declared.tree.Expr.{Expr}
use Rattle.c_tree.specs.declared.tree.Count.{Count}
use Rattle.c_tree.specs.declared.tree.Clause.{Clause}
use Rattle.c_tree.specs.declared.tree.ApplyItem.{ApplyItem}
use Rattle.c_tree.specs.declared.tree.Stmt.{Stmt}
use Rattle.c_tree.specs.declared.tree.Item.{Item}
use Rattle.c_tree.proofs.Walks.{rest_more, rest_none}

pub exprs_more : (xs : List Expr) (i : ℕ) (x : Expr) → i < length xs → x ≡ slice_index_or xs i x
    → exprs_height (bare_exprs (drop i xs)) ≡ max (expr_height (bare_expr x)) (exprs_height (bare_exprs (drop (i + 1) xs)))
exprs_more xs i = rest_more (λ ys. exprs_height (bare_exprs ys)) xs i

pub exprs_end : (xs : List Expr) (i : ℕ) → length xs ≤ i → exprs_height (bare_exprs (drop i xs)) ≡ 0
exprs_end xs i = rest_none (λ ys. exprs_height (bare_exprs ys)) xs i

pub clauses_more : (xs : List Clause) (i : ℕ) (x : Clause) → i < length xs → x ≡ slice_index_or xs i x
    → clauses_height (bare_clauses (drop i xs)) ≡ max (clause_height (bare_clause x)) (clauses_height (bare_clauses (drop (i + 1) xs)))
clauses_more xs i = rest_more (λ ys. clauses_height (bare_clauses ys)) xs i

pub clauses_end : (xs : List Clause) (i : ℕ) → length xs ≤ i → clauses_height (bare_clauses (drop i xs)) ≡ 0
clauses_end xs i = rest_none (λ ys. clauses_height (bare_clauses ys)) xs i

pub items_more : (xs : List ApplyItem) (i : ℕ) (x : ApplyItem) → i < length xs → x ≡ slice_index_or xs i x
    → items_height (bare_items (drop i xs)) ≡ max (item_height (bare_item x)) (items_height (bare_items (drop (i + 1) xs)))
items_more xs i = rest_more (λ ys. items_height (bare_items ys)) xs i

pub items_end : (xs : List ApplyItem) (i : ℕ) → length xs ≤ i → items_height (bare_items (drop i xs)) ≡ 0
items_end xs i = rest_none (λ ys. items_height (bare_items ys)) xs i

pub stmts_more : (xs : List Stmt) (i : ℕ) (x : Stmt) → i < length xs → x ≡ slice_index_or xs i x
    → stmts_height (bare_stmts (drop i xs)) ≡ max (stmt_height (bare_stmt x)) (stmts_height (bare_stmts (drop (i + 1) xs)))
stmts_more xs i = rest_more (λ ys. stmts_height (bare_stmts ys)) xs i

pub stmts_end : (xs : List Stmt) (i : ℕ) → length xs ≤ i → stmts_height (bare_stmts (drop i xs)) ≡ 0
stmts_end xs i = rest_none (λ ys. stmts_height (bare_stmts ys)) xs i

pub counts_more : (xs : List Count) (i : ℕ) (x : Count) → i < length xs → x ≡ slice_index_or xs i x
    → counts_height (map bare_count (drop i xs)) ≡ counts_height (bare_count x ∷ map bare_count (drop (i + 1) xs))
counts_more xs i = rest_more (λ ys. counts_height (map bare_count ys)) xs i

pub counts_end : (xs : List Count) (i : ℕ) → length xs ≤ i → counts_height (map bare_count (drop i xs)) ≡ 0
counts_end xs i = rest_none (λ ys. counts_height (map bare_count ys)) xs i

pub tops_more : (xs : List Item) (i : ℕ) (x : Item) → i < length xs → x ≡ slice_index_or xs i x
    → program_height (map bare_top (drop i xs)) ≡ max (top_height (bare_top x)) (program_height (map bare_top (drop (i + 1) xs)))
tops_more xs i = rest_more (λ ys. program_height (map bare_top ys)) xs i

pub tops_end : (xs : List Item) (i : ℕ) → length xs ≤ i → program_height (map bare_top (drop i xs)) ≡ 0
tops_end xs i = rest_none (λ ys. program_height (map bare_top ys)) xs i

pub ruleset heights = (exprs_more, exprs_end, clauses_more, clauses_end, items_more, items_end, stmts_more, stmts_end, counts_more, counts_end, tops_more, tops_end)
