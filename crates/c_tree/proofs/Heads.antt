-- What the fields of a `for` head are in its bare tree and in its tree with places. The other nodes' equations are
-- found by themselves.
use Rattle.std.proofs.Common.{◌≡◌, ◌∙◌, sym, ap, ℕ, Option, Some, None}
use Rattle.std.specs.Option.{option_map}
use Rattle.c_tree.specs.Bare as b
use Rattle.c_tree.specs.BareOf as bare
use Rattle.c_tree.specs.BareOf.{bare_expr, bare_stmt, bare_head}
use Rattle.c_tree.specs.Placed as p
use Rattle.c_tree.specs.PlacedOf as placed
use Rattle.c_tree.specs.PlacedOf.{placed_expr, placed_stmt, placed_head}
use Rattle.c_tree.specs.declared.tree.Expr.{Expr}
use Rattle.c_tree.specs.declared.tree.Stmt.{Stmt}
use Rattle.c_tree.specs.declared.tree.ForHead.{ForHead, roll-ForHead, out-ForHead, roll-out-ForHead, fold-roll-ForHead}

bare_head_roll : (init : Option Stmt) (init_at : ℕ) (test : Option Expr) (test_at : ℕ) (step : Option Stmt) (step_at : ℕ)
    → bare_head (roll-ForHead (record { init = init; init_at = init_at; test = test; test_at = test_at; step = step; step_at = step_at })) ≡ b.head (bare.maybe_stmt (option_map bare_stmt init)) (option_map bare_expr test) (bare.maybe_stmt (option_map bare_stmt step))
bare_head_roll None init_at test test_at None step_at = fold-roll-ForHead b.Stmt b.Head bare.stmt_layer bare.head_layer (record { init = None; init_at = init_at; test = test; test_at = test_at; step = None; step_at = step_at })
bare_head_roll None init_at test test_at (Some step) step_at = fold-roll-ForHead b.Stmt b.Head bare.stmt_layer bare.head_layer (record { init = None; init_at = init_at; test = test; test_at = test_at; step = Some step; step_at = step_at })
bare_head_roll (Some init) init_at test test_at None step_at = fold-roll-ForHead b.Stmt b.Head bare.stmt_layer bare.head_layer (record { init = Some init; init_at = init_at; test = test; test_at = test_at; step = None; step_at = step_at })
bare_head_roll (Some init) init_at test test_at (Some step) step_at = fold-roll-ForHead b.Stmt b.Head bare.stmt_layer bare.head_layer (record { init = Some init; init_at = init_at; test = test; test_at = test_at; step = Some step; step_at = step_at })

pub bare_head_out : (h : ForHead) → bare_head h ≡ b.head (bare.maybe_stmt (option_map bare_stmt (out-ForHead h).init)) (option_map bare_expr (out-ForHead h).test) (bare.maybe_stmt (option_map bare_stmt (out-ForHead h).step))
bare_head_out h =
    let fields = out-ForHead h in
    ap bare_head (sym (roll-out-ForHead h)) ∙ bare_head_roll fields.init fields.init_at fields.test fields.test_at fields.step fields.step_at

placed_head_roll : (init : Option Stmt) (init_at : ℕ) (test : Option Expr) (test_at : ℕ) (step : Option Stmt) (step_at : ℕ)
    → placed_head (roll-ForHead (record { init = init; init_at = init_at; test = test; test_at = test_at; step = step; step_at = step_at })) ≡ p.head (placed.maybe_stmt (option_map placed_stmt init)) init_at (option_map placed_expr test) test_at (placed.maybe_stmt (option_map placed_stmt step)) step_at
placed_head_roll None init_at test test_at None step_at = fold-roll-ForHead p.Stmt p.Head placed.stmt_layer placed.head_layer (record { init = None; init_at = init_at; test = test; test_at = test_at; step = None; step_at = step_at })
placed_head_roll None init_at test test_at (Some step) step_at = fold-roll-ForHead p.Stmt p.Head placed.stmt_layer placed.head_layer (record { init = None; init_at = init_at; test = test; test_at = test_at; step = Some step; step_at = step_at })
placed_head_roll (Some init) init_at test test_at None step_at = fold-roll-ForHead p.Stmt p.Head placed.stmt_layer placed.head_layer (record { init = Some init; init_at = init_at; test = test; test_at = test_at; step = None; step_at = step_at })
placed_head_roll (Some init) init_at test test_at (Some step) step_at = fold-roll-ForHead p.Stmt p.Head placed.stmt_layer placed.head_layer (record { init = Some init; init_at = init_at; test = test; test_at = test_at; step = Some step; step_at = step_at })

pub placed_head_out : (h : ForHead) → placed_head h ≡ p.head (placed.maybe_stmt (option_map placed_stmt (out-ForHead h).init)) (out-ForHead h).init_at (option_map placed_expr (out-ForHead h).test) (out-ForHead h).test_at (placed.maybe_stmt (option_map placed_stmt (out-ForHead h).step)) (out-ForHead h).step_at
placed_head_out h =
    let fields = out-ForHead h in
    ap placed_head (sym (roll-out-ForHead h)) ∙ placed_head_roll fields.init fields.init_at fields.test fields.test_at fields.step fields.step_at

pub ruleset heads = (bare_head_out)

pub ruleset placed_heads = (placed_head_out)
