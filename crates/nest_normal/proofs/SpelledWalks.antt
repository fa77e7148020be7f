-- A walk over a list for a name: what a loop has left.
use Rattle.std.proofs.Common.{◌≡◌, ◌<◌, ◌≤◌, ◌+◌, ℕ, List, length, drop, slice_index_or, false, ◌||◌}
use Rattle.c_tree.specs.Bare.{Name}
use Rattle.c_tree.specs.BareOf.{bare_expr, bare_exprs, bare_stmt, bare_stmts}
use Rattle.c_tree.specs.declared.tree.Expr.{Expr}
use Rattle.c_tree.specs.declared.tree.Stmt.{Stmt}
use Rattle.c_tree.proofs.Walks.{rest_more, rest_none}
use Rattle.c_tree.proofs.Heads.{bare_head_out}
use Rattle.loop_normal.specs.GenOf.{bare_part, bare_parts}
use Rattle.loop_normal.specs.declared.generated.GenPart.{GenPart}
use Rattle.nest_normal.specs.Spelled.{in_expr, in_exprs, in_stmt, in_stmts, in_part, in_parts}

pub exprs_more : (n : Name) (xs : List Expr) (i : ℕ) (x : Expr) → i < length xs → x ≡ slice_index_or xs i x → in_exprs n (bare_exprs (drop i xs)) ≡ (in_expr n (bare_expr x) || in_exprs n (bare_exprs (drop (i + 1) xs)))
exprs_more n xs i = rest_more (λ ys. in_exprs n (bare_exprs ys)) xs i

pub exprs_end : (n : Name) (xs : List Expr) (i : ℕ) → length xs ≤ i → in_exprs n (bare_exprs (drop i xs)) ≡ false
exprs_end n xs i = rest_none (λ ys. in_exprs n (bare_exprs ys)) xs i

pub stmts_more : (n : Name) (xs : List Stmt) (i : ℕ) (x : Stmt) → i < length xs → x ≡ slice_index_or xs i x → in_stmts n (bare_stmts (drop i xs)) ≡ (in_stmt n (bare_stmt x) || in_stmts n (bare_stmts (drop (i + 1) xs)))
stmts_more n xs i = rest_more (λ ys. in_stmts n (bare_stmts ys)) xs i

pub stmts_end : (n : Name) (xs : List Stmt) (i : ℕ) → length xs ≤ i → in_stmts n (bare_stmts (drop i xs)) ≡ false
stmts_end n xs i = rest_none (λ ys. in_stmts n (bare_stmts ys)) xs i

pub parts_more : (n : Name) (xs : List GenPart) (i : ℕ) (x : GenPart) → i < length xs → x ≡ slice_index_or xs i x → in_parts n (bare_parts (drop i xs)) ≡ (in_part n (bare_part x) || in_parts n (bare_parts (drop (i + 1) xs)))
parts_more n xs i = rest_more (λ ys. in_parts n (bare_parts ys)) xs i

pub parts_end : (n : Name) (xs : List GenPart) (i : ℕ) → length xs ≤ i → in_parts n (bare_parts (drop i xs)) ≡ false
parts_end n xs i = rest_none (λ ys. in_parts n (bare_parts ys)) xs i

pub ruleset walks = (exprs_more, exprs_end, stmts_more, stmts_end, parts_more, parts_end)

pub ruleset heads = (bare_head_out)
