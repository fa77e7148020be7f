-- What a loop has left to print: the next element and the rest, and nothing at the end.
use Rattle.std.proofs.Common.{◌≡◌, ◌∙◌, ◌<◌, ◌≤◌, ◌+◌, ◌++◌, ℕ, suc, Bool, false, List, [], ◌∷◌, length, map, drop, slice_index_or, ap, sym}
use Rattle.std.proofs.lemmas.List.{at_drop_more, drop_all}
use Rattle.std.specs.Prelude.{codes}
use Rattle.c_tree.specs.BareOf.{bare_expr, bare_exprs, bare_count, bare_clause, bare_clauses, bare_item, bare_items, bare_stmt, bare_stmts, bare_param, bare_top}
use Rattle.c_tree.specs.declared.tree.Expr.{Expr}
use Rattle.c_tree.specs.declared.tree.Count.{Count}
use Rattle.c_tree.specs.declared.tree.Clause.{Clause}
use Rattle.c_tree.specs.declared.tree.ApplyItem.{ApplyItem}
use Rattle.c_tree.specs.declared.tree.Stmt.{Stmt}
use Rattle.c_tree.specs.declared.tree.Param.{Param}
use Rattle.c_tree.specs.declared.tree.Item.{Item}
use Rattle.c_printer.specs.Layout.{text, separator}
use Rattle.c_printer.specs.Expressions.{expr_form, subscripts, further}
use Rattle.c_printer.specs.Directives.{count_form, further_counts, clause_form, clauses_form, item_form, items_after}
use Rattle.c_printer.specs.Statements.{stmt_form, stmts_form}
use Rattle.c_printer.specs.Programs.{param_form, further_params, top_form, program_form}

rest_more : {A : Type 0} (f : List A → List ℕ) (xs : List A) (i : ℕ) (x : A) → i < length xs → x ≡ slice_index_or xs i x → f (drop i xs) ≡ f (x ∷ drop (i + 1) xs)
rest_more f xs i x h at = at_drop_more f xs i x h ∙ ap (λ y. f (y ∷ drop (i + 1) xs)) (sym at)

rest_none : {A : Type 0} (f : List A → List ℕ) (xs : List A) (i : ℕ) → length xs ≤ i → f (drop i xs) ≡ f []
rest_none f xs i h = ap f (drop_all i xs h)

pub subscripts_more : (xs : List Expr) (i : ℕ) (x : Expr) → i < length xs → x ≡ slice_index_or xs i x
    → text (subscripts (bare_exprs (drop i xs))) ≡ codes "[" ++ (text (expr_form (bare_expr x)) ++ (codes "]" ++ text (subscripts (bare_exprs (drop (i + 1) xs)))))
subscripts_more xs i = rest_more (λ ys. text (subscripts (bare_exprs ys))) xs i

pub subscripts_end : (xs : List Expr) (i : ℕ) → length xs ≤ i → text (subscripts (bare_exprs (drop i xs))) ≡ []
subscripts_end xs i = rest_none (λ ys. text (subscripts (bare_exprs ys))) xs i

pub further_more : (xs : List Expr) (i : ℕ) (x : Expr) → i < length xs → x ≡ slice_index_or xs i x
    → text (further (bare_exprs (drop i xs))) ≡ codes ", " ++ (text (expr_form (bare_expr x)) ++ text (further (bare_exprs (drop (i + 1) xs))))
further_more xs i = rest_more (λ ys. text (further (bare_exprs ys))) xs i

pub further_end : (xs : List Expr) (i : ℕ) → length xs ≤ i → text (further (bare_exprs (drop i xs))) ≡ []
further_end xs i = rest_none (λ ys. text (further (bare_exprs ys))) xs i

pub counts_more : (xs : List Count) (i : ℕ) (x : Count) → i < length xs → x ≡ slice_index_or xs i x
    → text (further_counts (map bare_count (drop i xs))) ≡ codes ", " ++ (text (count_form (bare_count x)) ++ text (further_counts (map bare_count (drop (i + 1) xs))))
counts_more xs i = rest_more (λ ys. text (further_counts (map bare_count ys))) xs i

pub counts_end : (xs : List Count) (i : ℕ) → length xs ≤ i → text (further_counts (map bare_count (drop i xs))) ≡ []
counts_end xs i = rest_none (λ ys. text (further_counts (map bare_count ys))) xs i

pub clauses_more : (xs : List Clause) (i : ℕ) (x : Clause) → i < length xs → x ≡ slice_index_or xs i x
    → text (clauses_form (bare_clauses (drop i xs))) ≡ codes " " ++ (text (clause_form (bare_clause x)) ++ text (clauses_form (bare_clauses (drop (i + 1) xs))))
clauses_more xs i = rest_more (λ ys. text (clauses_form (bare_clauses ys))) xs i

pub clauses_end : (xs : List Clause) (i : ℕ) → length xs ≤ i → text (clauses_form (bare_clauses (drop i xs))) ≡ []
clauses_end xs i = rest_none (λ ys. text (clauses_form (bare_clauses ys))) xs i

pub items_more : (first : Bool) (xs : List ApplyItem) (i : ℕ) (x : ApplyItem) → i < length xs → x ≡ slice_index_or xs i x
    → text (items_after first (bare_items (drop i xs))) ≡ text (separator first) ++ (text (item_form (bare_item x)) ++ text (items_after false (bare_items (drop (i + 1) xs))))
items_more first xs i = rest_more (λ ys. text (items_after first (bare_items ys))) xs i

pub items_end : (first : Bool) (xs : List ApplyItem) (i : ℕ) → length xs ≤ i → text (items_after first (bare_items (drop i xs))) ≡ []
items_end first xs i = rest_none (λ ys. text (items_after first (bare_items ys))) xs i

pub stmts_more : (level : ℕ) (xs : List Stmt) (i : ℕ) (x : Stmt) → i < length xs → x ≡ slice_index_or xs i x
    → text (stmts_form level (bare_stmts (drop i xs))) ≡ text (stmt_form level (bare_stmt x)) ++ text (stmts_form level (bare_stmts (drop (i + 1) xs)))
stmts_more level xs i = rest_more (λ ys. text (stmts_form level (bare_stmts ys))) xs i

pub stmts_end : (level : ℕ) (xs : List Stmt) (i : ℕ) → length xs ≤ i → text (stmts_form level (bare_stmts (drop i xs))) ≡ []
stmts_end level xs i = rest_none (λ ys. text (stmts_form level (bare_stmts ys))) xs i

pub params_more : (xs : List Param) (i : ℕ) (x : Param) → i < length xs → x ≡ slice_index_or xs i x
    → text (further_params (map bare_param (drop i xs))) ≡ codes ", " ++ (text (param_form (bare_param x)) ++ text (further_params (map bare_param (drop (i + 1) xs))))
params_more xs i = rest_more (λ ys. text (further_params (map bare_param ys))) xs i

pub params_end : (xs : List Param) (i : ℕ) → length xs ≤ i → text (further_params (map bare_param (drop i xs))) ≡ []
params_end xs i = rest_none (λ ys. text (further_params (map bare_param ys))) xs i

pub tops_more : (xs : List Item) (i : ℕ) (x : Item) → i < length xs → x ≡ slice_index_or xs i x
    → text (program_form (map bare_top (drop i xs))) ≡ text (top_form (bare_top x)) ++ text (program_form (map bare_top (drop (i + 1) xs)))
tops_more xs i = rest_more (λ ys. text (program_form (map bare_top ys))) xs i

pub tops_end : (xs : List Item) (i : ℕ) → length xs ≤ i → text (program_form (map bare_top (drop i xs))) ≡ []
tops_end xs i = rest_none (λ ys. text (program_form (map bare_top ys))) xs i

pub ruleset rests = (subscripts_more, subscripts_end, further_more, further_end, counts_more, counts_end, clauses_more, clauses_end, items_more, items_end, stmts_more, stmts_end, params_more, params_end, tops_more, tops_end)
