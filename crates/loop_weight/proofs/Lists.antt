-- What a loop over expressions, clauses or items has left.
use Rattle.std.proofs.Common.{◌≡◌, ◌<◌, ◌≤◌, ◌+◌, ℕ, List, length, drop, slice_index_or}
use Rattle.c_tree.specs.BareOf.{bare_expr, bare_exprs, bare_clause, bare_clauses, bare_item, bare_items}
use Rattle.c_tree.specs.declared.tree.Expr.{Expr}
use Rattle.c_tree.specs.declared.tree.Clause.{Clause}
use Rattle.c_tree.specs.declared.tree.ApplyItem.{ApplyItem}
use Rattle.c_tree.proofs.Walks.{rest_more, rest_none}
use Rattle.canonical_nests.specs.Weight.{expr_weight, exprs_weight, clause_weight, clauses_weight, item_weight, items_weight}

pub exprs_more : (xs : List Expr) (i : ℕ) (x : Expr) → i < length xs → x ≡ slice_index_or xs i x
    → exprs_weight (bare_exprs (drop i xs)) ≡ expr_weight (bare_expr x) + exprs_weight (bare_exprs (drop (i + 1) xs))
exprs_more xs i = rest_more (λ ys. exprs_weight (bare_exprs ys)) xs i

pub exprs_end : (xs : List Expr) (i : ℕ) → length xs ≤ i → exprs_weight (bare_exprs (drop i xs)) ≡ 0
exprs_end xs i = rest_none (λ ys. exprs_weight (bare_exprs ys)) xs i

pub clauses_more : (xs : List Clause) (i : ℕ) (x : Clause) → i < length xs → x ≡ slice_index_or xs i x
    → clauses_weight (bare_clauses (drop i xs)) ≡ clause_weight (bare_clause x) + clauses_weight (bare_clauses (drop (i + 1) xs))
clauses_more xs i = rest_more (λ ys. clauses_weight (bare_clauses ys)) xs i

pub clauses_end : (xs : List Clause) (i : ℕ) → length xs ≤ i → clauses_weight (bare_clauses (drop i xs)) ≡ 0
clauses_end xs i = rest_none (λ ys. clauses_weight (bare_clauses ys)) xs i

pub items_more : (xs : List ApplyItem) (i : ℕ) (x : ApplyItem) → i < length xs → x ≡ slice_index_or xs i x
    → items_weight (bare_items (drop i xs)) ≡ item_weight (bare_item x) + items_weight (bare_items (drop (i + 1) xs))
items_more xs i = rest_more (λ ys. items_weight (bare_items ys)) xs i

pub items_end : (xs : List ApplyItem) (i : ℕ) → length xs ≤ i → items_weight (bare_items (drop i xs)) ≡ 0
items_end xs i = rest_none (λ ys. items_weight (bare_items ys)) xs i

pub ruleset lists = (exprs_more, exprs_end, clauses_more, clauses_end, items_more, items_end)
