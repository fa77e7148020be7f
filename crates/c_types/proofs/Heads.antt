-- A `for` in the tree with places, and a head at its fields.
use Rattle.std.proofs.Common.{◌≡◌, ◌∙◌, sym, ap, List}
use Rattle.c_tree.specs.Placed as p
use Rattle.c_tree.specs.Placed.{for_}
use Rattle.c_tree.specs.PlacedOf.{stmt_layer, head_layer, placed_stmt, placed_stmts, placed_head}
use Rattle.c_tree.specs.declared.tree.Span.{Span}
use Rattle.c_tree.specs.declared.tree.Stmt.{Stmt, fold-roll-Stmt}
use Rattle.c_tree.specs.declared.tree.Stmt.TheVariants as v
use Rattle.c_tree.specs.declared.tree.Stmt.TheOpen as s
use Rattle.c_tree.specs.declared.tree.ForHead.{ForHead}
use Rattle.c_tree.proofs.Heads.{placed_head_out}

pub ruleset heads = (placed_head_out)

pub placed_for : (stmt : Stmt) (h : ForHead) (body : List Stmt) (at : Span) → stmt ≡ v.For h body at → placed_stmt stmt ≡ for_ (placed_head h) (placed_stmts body) at
placed_for stmt h body at is =
    ap placed_stmt is ∙ (ap placed_stmt (sym (v.rolls-For h body at)) ∙ fold-roll-Stmt p.Stmt p.Head stmt_layer head_layer (s.For h body at))
