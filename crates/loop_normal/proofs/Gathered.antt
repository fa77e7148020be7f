-- Names put together in a walk: what a loop has left, and lists one after another.
use Rattle.std.proofs.Common.{◌≡◌, ◌<◌, ◌≤◌, ◌+◌, ℕ, List, [], ◌++◌, length, map, drop, slice_index_or, append_assoc, append-nil}
use Rattle.c_tree.specs.BareOf.{bare_expr, bare_exprs, bare_stmt, bare_stmts, bare_param, bare_top}
use Rattle.c_tree.specs.declared.tree.Expr.{Expr}
use Rattle.c_tree.specs.declared.tree.Stmt.{Stmt}
use Rattle.c_tree.specs.declared.tree.Param.{Param}
use Rattle.c_tree.specs.declared.tree.Item.{Item}
use Rattle.c_tree.proofs.Walks.{rest_more, rest_none}
use Rattle.c_tree.proofs.Heads.{bare_head_out}
use Rattle.loop_normal.specs.SourceNames.{expr_names, exprs_names, stmt_names, stmts_names, kept, params_names, top_names, program_names}

pub exprs_more : (xs : List Expr) (i : ℕ) (x : Expr) → i < length xs → x ≡ slice_index_or xs i x → exprs_names (bare_exprs (drop i xs)) ≡ expr_names (bare_expr x) ++ exprs_names (bare_exprs (drop (i + 1) xs))
exprs_more xs i = rest_more (λ ys. exprs_names (bare_exprs ys)) xs i

pub exprs_end : (xs : List Expr) (i : ℕ) → length xs ≤ i → exprs_names (bare_exprs (drop i xs)) ≡ []
exprs_end xs i = rest_none (λ ys. exprs_names (bare_exprs ys)) xs i

pub stmts_more : (xs : List Stmt) (i : ℕ) (x : Stmt) → i < length xs → x ≡ slice_index_or xs i x → stmts_names (bare_stmts (drop i xs)) ≡ stmt_names (bare_stmt x) ++ stmts_names (bare_stmts (drop (i + 1) xs))
stmts_more xs i = rest_more (λ ys. stmts_names (bare_stmts ys)) xs i

pub stmts_end : (xs : List Stmt) (i : ℕ) → length xs ≤ i → stmts_names (bare_stmts (drop i xs)) ≡ []
stmts_end xs i = rest_none (λ ys. stmts_names (bare_stmts ys)) xs i

pub params_more : (xs : List Param) (i : ℕ) (x : Param) → i < length xs → x ≡ slice_index_or xs i x → params_names (map bare_param (drop i xs)) ≡ kept x.name ++ params_names (map bare_param (drop (i + 1) xs))
params_more xs i = rest_more (λ ys. params_names (map bare_param ys)) xs i

pub params_end : (xs : List Param) (i : ℕ) → length xs ≤ i → params_names (map bare_param (drop i xs)) ≡ []
params_end xs i = rest_none (λ ys. params_names (map bare_param ys)) xs i

pub tops_more : (xs : List Item) (i : ℕ) (x : Item) → i < length xs → x ≡ slice_index_or xs i x → program_names (map bare_top (drop i xs)) ≡ top_names (bare_top x) ++ program_names (map bare_top (drop (i + 1) xs))
tops_more xs i = rest_more (λ ys. program_names (map bare_top ys)) xs i

pub tops_end : (xs : List Item) (i : ℕ) → length xs ≤ i → program_names (map bare_top (drop i xs)) ≡ []
tops_end xs i = rest_none (λ ys. program_names (map bare_top ys)) xs i

pub ruleset gathered = (append_assoc, append-nil, exprs_more, exprs_end, stmts_more, stmts_end, params_more, params_end, tops_more, tops_end)

pub ruleset gathered_heads = (append_assoc, append-nil, bare_head_out)
