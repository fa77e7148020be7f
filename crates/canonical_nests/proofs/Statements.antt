-- What a loop over statements or items has left: the next one and the rest, and nothing at the end.
use Rattle.std.proofs.Common.{◌≡◌, ◌<◌, ◌≤◌, ◌+◌, ℕ, List, length, map, max, drop, slice_index_or}
use Rattle.c_tree.specs.BareOf.{bare_stmt, bare_stmts, bare_top}
use Rattle.c_tree.specs.declared.tree.Stmt.{Stmt}
use Rattle.c_tree.specs.declared.tree.Item.{Item}
use Rattle.c_tree.proofs.Walks.{rest_more, rest_none}
use Rattle.canonical_nests.specs.TallHeight.{tall_stmt, tall_stmts, tall_top, tall_height}

pub stmts_more : (xs : List Stmt) (i : ℕ) (x : Stmt) → i < length xs → x ≡ slice_index_or xs i x
    → tall_stmts (bare_stmts (drop i xs)) ≡ max (tall_stmt (bare_stmt x)) (tall_stmts (bare_stmts (drop (i + 1) xs)))
stmts_more xs i = rest_more (λ ys. tall_stmts (bare_stmts ys)) xs i

pub stmts_end : (xs : List Stmt) (i : ℕ) → length xs ≤ i → tall_stmts (bare_stmts (drop i xs)) ≡ 0
stmts_end xs i = rest_none (λ ys. tall_stmts (bare_stmts ys)) xs i

pub tops_more : (xs : List Item) (i : ℕ) (x : Item) → i < length xs → x ≡ slice_index_or xs i x
    → tall_height (map bare_top (drop i xs)) ≡ max (tall_top (bare_top x)) (tall_height (map bare_top (drop (i + 1) xs)))
tops_more xs i = rest_more (λ ys. tall_height (map bare_top ys)) xs i

pub tops_end : (xs : List Item) (i : ℕ) → length xs ≤ i → tall_height (map bare_top (drop i xs)) ≡ 0
tops_end xs i = rest_none (λ ys. tall_height (map bare_top ys)) xs i

pub ruleset statements = (stmts_more, stmts_end, tops_more, tops_end)
