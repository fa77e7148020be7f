-- The trees with places of statements that hold statements twice: an `if` with an `else`, and a `for`.
use Rattle.std.proofs.Common.{◌≡◌, ◌∙◌, sym, ap, List, Some}
use Rattle.c_tree.specs.Placed as p
use Rattle.c_tree.specs.PlacedOf.{stmt_layer, head_layer, placed_expr, placed_stmt, placed_stmts, placed_head}
use Rattle.c_tree.specs.declared.tree.Span.{Span}
use Rattle.c_tree.specs.declared.tree.Expr.{Expr}
use Rattle.c_tree.specs.declared.tree.Stmt.{Stmt, fold-roll-Stmt}
use Rattle.c_tree.specs.declared.tree.Stmt.TheVariants as v
use Rattle.c_tree.specs.declared.tree.Stmt.TheOpen as s
use Rattle.c_tree.specs.declared.tree.ForHead.{ForHead}

module _ (stmt : Stmt) where
  pub placed_if_else : (e : Expr) (ys ns : List Stmt) (at : Span) → stmt ≡ v.If e ys (Some ns) at → placed_stmt stmt ≡ p.if_else (placed_expr e) (placed_stmts ys) (placed_stmts ns) at
  placed_if_else e ys ns at is =
      ap placed_stmt is ∙ (ap placed_stmt (sym (v.rolls-If e ys (Some ns) at)) ∙ fold-roll-Stmt p.Stmt p.Head stmt_layer head_layer (s.If e ys (Some ns) at))

  pub placed_for : (h : ForHead) (body : List Stmt) (at : Span) → stmt ≡ v.For h body at → placed_stmt stmt ≡ p.for_ (placed_head h) (placed_stmts body) at
  placed_for h body at is =
      ap placed_stmt is ∙ (ap placed_stmt (sym (v.rolls-For h body at)) ∙ fold-roll-Stmt p.Stmt p.Head stmt_layer head_layer (s.For h body at))
