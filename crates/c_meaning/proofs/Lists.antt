-- Statements, items and expressions of a list, one by one.
use Rattle.std.proofs.Common.{◌≡◌, ◌∙◌, sym, ap, subst, ℕ, zero, suc, ◌+◌, ◌<◌, ◌≤◌, List, [], ◌∷◌, ◌++◌, length, map, take, drop, arith}
use Rattle.std.proofs.lemmas.List.{at_drop_more, drop_all, take_more, map-append}
use Rattle.std.specs.Prelude.{slice_index_or}
use Rattle.c_tree.specs.Bare.{no_stmts, more_stmts, no_exprs, more_exprs}
use Rattle.resolved_names.specs.Numbered.{numbered_top, numbered_stmt, numbered_stmts, numbered_expr, numbered_exprs}
use Rattle.c_meaning.specs.Held.{HeldExpr, HeldExprs}
use Rattle.c_meaning.specs.Runnable.{RunnableStmt, RunnableStmts, RunnableTop, RunnableTops}
use Rattle.c_meaning.specs.Sizes.{stmt_size, stmts_size, top_size, tops_size}
use Rattle.resolved_names.specs.declared.tree.Item.{Item}
use Rattle.resolved_names.specs.declared.tree.Stmt.{Stmt}
use Rattle.resolved_names.specs.declared.tree.Expr.{Expr}

pub stmts_more : (xs : List Stmt) (i : ℕ) (x : Stmt) → i < length xs → x ≡ slice_index_or xs i x → numbered_stmts (drop i xs) ≡ more_stmts (numbered_stmt x) (numbered_stmts (drop (i + 1) xs))
stmts_more xs i x h at = at_drop_more numbered_stmts xs i x h ∙ ap (λ y. more_stmts (numbered_stmt y) (numbered_stmts (drop (i + 1) xs))) (sym at)

pub stmts_end : (xs : List Stmt) (i : ℕ) → length xs ≤ i → numbered_stmts (drop i xs) ≡ no_stmts
stmts_end xs i h = ap numbered_stmts (drop_all i xs h)

pub exprs_more : (xs : List Expr) (i : ℕ) (x : Expr) → i < length xs → x ≡ slice_index_or xs i x → numbered_exprs (drop i xs) ≡ more_exprs (numbered_expr x) (numbered_exprs (drop (i + 1) xs))
exprs_more xs i x h at = at_drop_more numbered_exprs xs i x h ∙ ap (λ y. more_exprs (numbered_expr y) (numbered_exprs (drop (i + 1) xs))) (sym at)

pub exprs_end : (xs : List Expr) (i : ℕ) → length xs ≤ i → numbered_exprs (drop i xs) ≡ no_exprs
exprs_end xs i h = ap numbered_exprs (drop_all i xs h)

-- ---- items

pub tops_more : (xs : List Item) (i : ℕ) (x : Item) → i < length xs → x ≡ slice_index_or xs i x → map numbered_top (drop i xs) ≡ numbered_top x ∷ map numbered_top (drop (i + 1) xs)
tops_more xs i x h at = at_drop_more (map numbered_top) xs i x h ∙ ap (λ y. numbered_top y ∷ map numbered_top (drop (i + 1) xs)) (sym at)

pub tops_before : (xs : List Item) (i : ℕ) (x : Item) → i < length xs → x ≡ slice_index_or xs i x → map numbered_top (take (i + 1) xs) ≡ map numbered_top (take i xs) ++ numbered_top x ∷ []
tops_before xs i x h at =
    ap (map numbered_top) (take_more xs i x h) ∙ (map-append numbered_top (take i xs) (slice_index_or xs i x ∷ []) ∙ ap (λ y. map numbered_top (take i xs) ++ numbered_top y ∷ []) (sym at))

pub tops_end : (xs : List Item) (i : ℕ) → length xs ≤ i → map numbered_top (drop i xs) ≡ []
tops_end xs i h = ap (map numbered_top) (drop_all i xs h)

abbrev Good : List Item → Type 0
Good xs = RunnableTops (map numbered_top xs)

pub good_at : (xs : List Item) (i : ℕ) (x : Item) → i < length xs → x ≡ slice_index_or xs i x → Good xs → RunnableTop (numbered_top x)
good_at [] i x h at k = absurd (omega arith)
good_at (y ∷ ys) zero x h at k = subst (λ z. RunnableTop (numbered_top z)) (sym at) k.0
good_at (y ∷ ys) (suc i) x h at k = good_at ys i x (omega arith) at k.1

pub good_before : (xs : List Item) (i : ℕ) → Good xs → Good (take i xs)
good_before [] i k = by i
  where
    by : (j : ℕ) → Good (take j [])
    by zero = tt
    by (suc j) = tt
good_before (y ∷ ys) zero k = tt
good_before (y ∷ ys) (suc i) k = (k.0, good_before ys i k.1)

-- ---- the runnable parts of a list, and their sizes

pub runnable_at : (xs : List Stmt) (i : ℕ) (x : Stmt) → i < length xs → x ≡ slice_index_or xs i x → RunnableStmts (numbered_stmts xs) → RunnableStmt (numbered_stmt x)
runnable_at [] i x h at k = absurd (omega arith)
runnable_at (y ∷ ys) zero x h at k = subst (λ z. RunnableStmt (numbered_stmt z)) (sym at) k.0
runnable_at (y ∷ ys) (suc i) x h at k = runnable_at ys i x (omega arith) at k.1

pub smaller_at : (xs : List Stmt) (i : ℕ) (x : Stmt) → i < length xs → x ≡ slice_index_or xs i x → stmt_size (numbered_stmt x) < stmts_size (numbered_stmts xs)
smaller_at [] i x h at = absurd (omega arith)
smaller_at (y ∷ ys) zero x h at = subst (λ z. stmt_size (numbered_stmt z) < stmts_size (numbered_stmts (y ∷ ys))) (sym at) (omega arith)
smaller_at (y ∷ ys) (suc i) x h at = let less : stmt_size (numbered_stmt x) < stmts_size (numbered_stmts ys) = smaller_at ys i x (omega arith) at in omega arith

pub well_formed_at : (xs : List Expr) (i : ℕ) (x : Expr) → i < length xs → x ≡ slice_index_or xs i x → HeldExprs (numbered_exprs xs) → HeldExpr (numbered_expr x)
well_formed_at [] i x h at k = absurd (omega arith)
well_formed_at (y ∷ ys) zero x h at k = subst (λ z. HeldExpr (numbered_expr z)) (sym at) k.0
well_formed_at (y ∷ ys) (suc i) x h at k = well_formed_at ys i x (omega arith) at k.1

-- a function's body, with the items before it, is smaller than the items
pub body_smaller : (xs : List Item) (i : ℕ) (x : Item) → i < length xs → x ≡ slice_index_or xs i x → tops_size (map numbered_top (take i xs)) + top_size (numbered_top x) ≤ tops_size (map numbered_top xs)
body_smaller [] i x h at = absurd (omega arith)
body_smaller (y ∷ ys) zero x h at = subst (λ z. 0 + top_size (numbered_top z) ≤ top_size (numbered_top y) + tops_size (map numbered_top ys)) (sym at) (omega arith)
body_smaller (y ∷ ys) (suc i) x h at = let less : tops_size (map numbered_top (take i ys)) + top_size (numbered_top x) ≤ tops_size (map numbered_top ys) = body_smaller ys i x (omega arith) at in omega arith

pub ruleset statements = (stmts_more, stmts_end, tops_more, tops_end)
