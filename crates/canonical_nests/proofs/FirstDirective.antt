-- What a search for the first directive has left: that of the next statement or item, else that of the rest.
use Rattle.std.proofs.Common.{◌≡◌, ◌<◌, ◌≤◌, ◌+◌, ℕ, List, length, map, drop, slice_index_or, None}
use Rattle.std.specs.Option.{option_or}
use Rattle.c_tree.specs.PlacedOf.{placed_stmt, placed_stmts, placed_top}
use Rattle.c_tree.specs.declared.tree.Stmt.{Stmt}
use Rattle.c_tree.specs.declared.tree.Item.{Item}
use Rattle.c_tree.proofs.Walks.{rest_more, rest_none}
use Rattle.canonical_nests.specs.LoopRules.Programs.{stmt_directive, stmts_directive, top_directive, first_directive}

pub stmts_more : (xs : List Stmt) (i : ℕ) (x : Stmt) → i < length xs → x ≡ slice_index_or xs i x
    → stmts_directive (placed_stmts (drop i xs)) ≡ option_or (stmt_directive (placed_stmt x)) (stmts_directive (placed_stmts (drop (i + 1) xs)))
stmts_more xs i = rest_more (λ ys. stmts_directive (placed_stmts ys)) xs i

pub stmts_end : (xs : List Stmt) (i : ℕ) → length xs ≤ i → stmts_directive (placed_stmts (drop i xs)) ≡ None
stmts_end xs i = rest_none (λ ys. stmts_directive (placed_stmts ys)) xs i

pub tops_more : (xs : List Item) (i : ℕ) (x : Item) → i < length xs → x ≡ slice_index_or xs i x
    → first_directive (map placed_top (drop i xs)) ≡ option_or (top_directive (placed_top x)) (first_directive (map placed_top (drop (i + 1) xs)))
tops_more xs i = rest_more (λ ys. first_directive (map placed_top ys)) xs i

pub tops_end : (xs : List Item) (i : ℕ) → length xs ≤ i → first_directive (map placed_top (drop i xs)) ≡ None
tops_end xs i = rest_none (λ ys. first_directive (map placed_top ys)) xs i

pub ruleset first_directives = (stmts_more, stmts_end, tops_more, tops_end)
