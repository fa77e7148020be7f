-- The node of an `if` with `else`, of what was kept of its parts.
use Rattle.std.proofs.Common.{◌≡◌, ℕ, max, List, Some, sym, ap, ◌∙◌}
use Rattle.c_tree.specs.Placed as placed
use Rattle.c_tree.specs.PlacedOf.{placed_expr, placed_stmt, placed_stmts, stmt_layer, head_layer}
use Rattle.c_tree.specs.declared.tree.Span.{Span}
use Rattle.c_tree.specs.declared.tree.Expr.{Expr}
use Rattle.c_tree.specs.declared.tree.Stmt.{Stmt, fold-roll-Stmt}
use Rattle.c_tree.specs.declared.tree.Stmt.TheVariants as v
use Rattle.c_tree.specs.declared.tree.Stmt.TheVariants.{If}
use Rattle.c_tree.specs.declared.tree.Stmt.TheOpen as layer
use Rattle.pragma_grammar.specs.declared.directive_kept.Kept as code
use Rattle.pragma_grammar.specs.declared.directive_kept.Kept.TheVariants.{Whole}
use Rattle.pragma_grammar.specs.DirectiveKept.{Kept, both}
use Rattle.pragma_grammar.specs.DirectiveStands.{expr_of}
use Rattle.c_parser.specs.Kept.{stmts_of, node, node_of, pair}

placed_if_else : (e : Expr) (ss rs : List Stmt) (s : Span) → placed_stmt (If e ss (Some rs) s) ≡ placed.if_else (placed_expr e) (placed_stmts ss) (placed_stmts rs) s
placed_if_else e ss rs s = ap placed_stmt (sym (v.rolls-If e ss (Some rs) s)) ∙ fold-roll-Stmt placed.Stmt placed.Head stmt_layer head_layer (layer.If e ss (Some rs) s)

pub if_else_node : (x : code.Kept Expr) (y z : code.Kept (List Stmt)) (e : Expr) (ss rs : List Stmt) (f g h m n : ℕ) (s : Span) (r : Kept placed.Stmt)
    → x ≡ Whole e f → y ≡ Whole ss g → z ≡ Whole rs h → m ≡ max g h → n ≡ max f m → r ≡ node n s.start (placed_stmt (If e ss (Some rs) s))
    → r ≡ node_of s.start (both (λ e p. placed.if_else e p.0 p.1 s) (expr_of x) (both pair (stmts_of y) (stmts_of z)))
if_else_node x y z e ss rs f g h m n s r p q o i j b =
    b ∙ ap (λ t. node n s.start t) (placed_if_else e ss rs s)
    ∙ ap (λ l. node l s.start (placed.if_else (placed_expr e) (placed_stmts ss) (placed_stmts rs) s)) (j ∙ ap (max f) i)
    ∙ sym (ap (λ t. node_of s.start (both (λ e p. placed.if_else e p.0 p.1 s) (expr_of t) (both pair (stmts_of y) (stmts_of z)))) p
    ∙ ap (λ t. node_of s.start (both (λ e p. placed.if_else e p.0 p.1 s) (expr_of (Whole e f)) (both pair (stmts_of t) (stmts_of z)))) q
    ∙ ap (λ t. node_of s.start (both (λ e p. placed.if_else e p.0 p.1 s) (expr_of (Whole e f)) (both pair (stmts_of (Whole ss g)) (stmts_of t)))) o)
