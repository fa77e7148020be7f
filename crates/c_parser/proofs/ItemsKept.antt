-- What is kept of an item is built as the item is, and items with one more.
use Rattle.std.proofs.Common.{◌≡◌, ℕ, ◌+◌, max, List, [], ◌∷◌, ◌++◌, Option, Some, None, refl, ap, ◌∙◌, arith}
use Rattle.std.specs.Prelude.{map}
use Rattle.c_tree.specs.Bare.{Name}
use Rattle.c_tree.specs.Placed.{Expr, Exprs, no_exprs, Stmts, Param, global, function, main}
use Rattle.c_tree.specs.PlacedOf.{placed_top}
use Rattle.c_tree.specs.Forget.{forget_expr, forget_exprs, forget_stmts}
use Rattle.c_tree.specs.Height.{expr_height, exprs_height, stmts_height}
use Rattle.c_tree.specs.declared.tree.Span.{Span}
use Rattle.c_tree.specs.declared.tree.Ty.{Ty}
use Rattle.c_tree.specs.declared.tree.Item.{Item}
use Rattle.pragma_grammar.specs.declared.directive_kept.Kept as code
use Rattle.pragma_grammar.specs.declared.directive_kept.Kept.TheVariants.{Whole, Deep}
use Rattle.pragma_grammar.specs.Deep.{first, too_deep, deep_expr, deep_exprs}
use Rattle.pragma_grammar.specs.DirectiveKept.{kept, one, both, kept_or, keep_expr, keep_exprs}
use Rattle.pragma_grammar.specs.DirectiveStands.{pushed}
use Rattle.c_grammar.specs.Reading.{deep_stmts}
use Rattle.c_parser.specs.Kept.{keep_stmts, keep_top, node_of}
use Rattle.c_parser.specs.Items.{item_of, items_of, add_top}
use Rattle.c_parser.proofs.Keeping.{node_one}

one_part : {X : Type 0} (d : Option ℕ) (g h start : ℕ) (x : X) → g ≡ h → kept_or (first d (too_deep (1 + g) start)) (1 + g) x ≡ kept_or (first d (too_deep (1 + h) start)) (1 + h) x
one_part d g h start x q = ap (λ n. kept_or (first d (too_deep (1 + n) start)) (1 + n) x) q

pub keep_valued : (ty : Ty) (x : Name) (a : Span) (e : Expr) (start : ℕ) → keep_top (global ty x a no_exprs (Some e)) start ≡ node_of start (one (λ e. global ty x a no_exprs (Some e)) (keep_expr e))
keep_valued ty x a e start =
    let h = expr_height (forget_expr e) in
    one_part (deep_expr e) (max 0 h) h start (global ty x a no_exprs (Some e)) (omega arith)
    ∙ node_one (λ e. global ty x a no_exprs (Some e)) (deep_expr e) h start e

pub keep_unvalued : (ty : Ty) (x : Name) (a : Span) (es : Exprs) (start : ℕ) → keep_top (global ty x a es None) start ≡ node_of start (one (λ es. global ty x a es None) (keep_exprs es))
keep_unvalued ty x a es start =
    let h = exprs_height (forget_exprs es) in
    one_part (deep_exprs es) (max h 0) h start (global ty x a es None) (omega arith)
    ∙ node_one (λ es. global ty x a es None) (deep_exprs es) h start es

pub keep_function : (x : Name) (a : Span) (ps : List Param) (ss : Stmts) (s : Span) (start : ℕ) → keep_top (function x a ps ss s) start ≡ node_of start (one (λ ss. function x a ps ss s) (keep_stmts ss))
keep_function x a ps ss s start = node_one (λ ss. function x a ps ss s) (deep_stmts ss) (stmts_height (forget_stmts ss)) start ss

pub keep_main : (ss : Stmts) (s : Span) (start : ℕ) → keep_top (main ss s) start ≡ node_of start (one (λ ss. main ss s) (keep_stmts ss))
keep_main ss s start = node_one (λ ss. main ss s) (deep_stmts ss) (stmts_height (forget_stmts ss)) start ss

-- ---- one more

more_tops : (xs : List Item) (i : Item) → map placed_top (xs ++ i ∷ []) ≡ add_top (map placed_top xs) (placed_top i)
more_tops [] i = refl
more_tops (x ∷ xs) i = ap (λ z. placed_top x ∷ z) (more_tops xs i)

pub items_pushed : (l : code.Kept (List Item)) (i : code.Kept Item) → items_of (pushed l i) ≡ both add_top (items_of l) (item_of i)
items_pushed (Whole xs g) (Whole x h) = ap (λ z. kept (max g h) z) (more_tops xs x)
items_pushed (Whole xs g) (Deep p) = refl
items_pushed (Deep p) i = refl
