-- What the fields of a `for` head are in its bare tree.
use Rattle.std.proofs.Common.{◌≡◌, ◌∙◌, sym, ap, Option, Some, None}
use Rattle.std.specs.Option.{option_map}
use Rattle.c_tree.specs.Bare as b
use Rattle.resolved_names.specs.Numbered.{stmt_layer, head_layer, numbered_expr, numbered_stmt, numbered_head, maybe_stmt}
use Rattle.resolved_names.specs.declared.tree.Expr.{Expr}
use Rattle.resolved_names.specs.declared.tree.Stmt.{Stmt}
use Rattle.resolved_names.specs.declared.tree.ForHead.{ForHead, roll-ForHead, out-ForHead, roll-out-ForHead, fold-roll-ForHead}

numbered_head_roll : (init : Option Stmt) (test : Option Expr) (step : Option Stmt)
    → numbered_head (roll-ForHead (record { init = init; test = test; step = step })) ≡ b.head (maybe_stmt (option_map numbered_stmt init)) (option_map numbered_expr test) (maybe_stmt (option_map numbered_stmt step))
numbered_head_roll None test None = fold-roll-ForHead b.Stmt b.Head stmt_layer head_layer (record { init = None; test = test; step = None })
numbered_head_roll None test (Some step) = fold-roll-ForHead b.Stmt b.Head stmt_layer head_layer (record { init = None; test = test; step = Some step })
numbered_head_roll (Some init) test None = fold-roll-ForHead b.Stmt b.Head stmt_layer head_layer (record { init = Some init; test = test; step = None })
numbered_head_roll (Some init) test (Some step) = fold-roll-ForHead b.Stmt b.Head stmt_layer head_layer (record { init = Some init; test = test; step = Some step })

pub numbered_head_out : (h : ForHead) → numbered_head h ≡ b.head (maybe_stmt (option_map numbered_stmt (out-ForHead h).init)) (option_map numbered_expr (out-ForHead h).test) (maybe_stmt (option_map numbered_stmt (out-ForHead h).step))
numbered_head_out h =
    let fields = out-ForHead h in
    ap numbered_head (sym (roll-out-ForHead h)) ∙ numbered_head_roll fields.init fields.test fields.step
