-- The bare tree of a statement and of a `for` head.
use Rattle.std.proofs.Common.{◌≡◌, ◌∙◌, sym, ap, refl, subst, ℕ, List, [], ◌∷◌, map, Option, Some, None}
use Rattle.c_tree.specs.Bare as b
use Rattle.c_tree.specs.Placed as p
use Rattle.c_tree.specs.BareOf as bare
use Rattle.c_tree.specs.BareOf.{bare_stmt, bare_stmts, bare_head}
use Rattle.c_tree.specs.PlacedOf as placed
use Rattle.c_tree.specs.PlacedOf.{placed_stmt, placed_stmts, placed_head}
use Rattle.c_tree.specs.Forget.{forget_stmt, forget_stmts, forget_head}
use Rattle.c_tree.specs.declared.tree.Expr.{Expr}
use Rattle.c_tree.specs.declared.tree.Stmt.{Stmt, Stmt-F, roll-Stmt, ind-Stmt, fold-roll-Stmt, map-Stmt}
use Rattle.c_tree.specs.declared.tree.ForHead.{ForHead, ForHead-F, roll-ForHead, ind-ForHead, fold-roll-ForHead, map-ForHead}
use Rattle.c_tree.specs.declared.tree.Stmt.TheOpen as s
use Rattle.c_tree.proofs.Forgotten.Exprs.{bare_expr_is, bare_exprs_is, bare_option_is, bare_target_is}
use Rattle.c_tree.proofs.Forgotten.Directives.{bare_directive_is}

-- ---- what is to be shown of each type
abbrev StmtIs : Stmt → Type 0
StmtIs t = bare_stmt t ≡ forget_stmt (placed_stmt t)

abbrev HeadIs : ForHead → Type 0
HeadIs t = bare_head t ≡ forget_head (placed_head t)

abbrev KnownStmt : Type 0
KnownStmt = (t : Stmt) × StmtIs t

abbrev KnownHead : Type 0
KnownHead = (t : ForHead) × HeadIs t

lists_agree : (ss : List KnownStmt) → bare_stmts (map (λ e. e.0) ss) ≡ forget_stmts (placed_stmts (map (λ e. e.0) ss))
lists_agree [] = refl
lists_agree (s ∷ ss) = λ i. b.more_stmts (s.1 i) (lists_agree ss i)

-- ---- statements
abbrev StmtLayerAgrees : Stmt-F Stmt ForHead → Type 0
StmtLayerAgrees x =
    bare.stmt_layer (map-Stmt Stmt ForHead b.Stmt b.Head bare_stmt bare_head x)
    ≡ forget_stmt (placed.stmt_layer (map-Stmt Stmt ForHead p.Stmt p.Head placed_stmt placed_head x))

abbrev stmt_of : Stmt-F KnownStmt KnownHead → Stmt-F Stmt ForHead
stmt_of = map-Stmt KnownStmt KnownHead Stmt ForHead (λ e. e.0) (λ e. e.0)

stmt_layer_agrees : (y : Stmt-F KnownStmt KnownHead) → StmtLayerAgrees (stmt_of y)
stmt_layer_agrees (s.Decl ty x at init s) = ap (b.decl ty x) (bare_option_is init)
stmt_layer_agrees (s.Set t op e s) = λ i. b.set (bare_target_is t i) op (bare_expr_is e i)
stmt_layer_agrees (s.Step t up s) = λ i. b.step (bare_target_is t i) up
stmt_layer_agrees (s.Print e s) = ap b.print (bare_expr_is e)
stmt_layer_agrees (s.Input t at s) = ap b.input (bare_target_is t)
stmt_layer_agrees (s.If e ss None s) = λ i. b.if_ (bare_expr_is e i) (lists_agree ss i)
stmt_layer_agrees (s.If e ss (Some ts) s) = λ i. b.if_else (bare_expr_is e i) (lists_agree ss i) (lists_agree ts i)
stmt_layer_agrees (s.While e ss s) = λ i. b.while_ (bare_expr_is e i) (lists_agree ss i)
stmt_layer_agrees (s.Do ss e s) = λ i. b.do_ (lists_agree ss i) (bare_expr_is e i)
stmt_layer_agrees (s.For h ss s) = λ i. b.for_ (h.1 i) (lists_agree ss i)
stmt_layer_agrees (s.Block ss s) = ap b.block (lists_agree ss)
stmt_layer_agrees (s.Break s) = refl
stmt_layer_agrees (s.Continue s) = refl
stmt_layer_agrees (s.Empty s) = refl
stmt_layer_agrees (s.Omp d ss s) = λ i. b.omp (bare_directive_is d i) (lists_agree ss i)
stmt_layer_agrees (s.Call x at es s) = ap (b.call x) (bare_exprs_is es)

stmt_step : (x : Stmt-F Stmt ForHead) (y : Stmt-F KnownStmt KnownHead) → stmt_of y ≡ x → StmtIs (roll-Stmt x)
stmt_step x y is =
    fold-roll-Stmt b.Stmt b.Head bare.stmt_layer bare.head_layer x
    ∙ subst StmtLayerAgrees is (stmt_layer_agrees y)
    ∙ sym (ap forget_stmt (fold-roll-Stmt p.Stmt p.Head placed.stmt_layer placed.head_layer x))

-- ---- heads
abbrev HeadLayerAgrees : ForHead-F Stmt ForHead → Type 0
HeadLayerAgrees x =
    bare.head_layer (map-ForHead Stmt ForHead b.Stmt b.Head bare_stmt bare_head x)
    ≡ forget_head (placed.head_layer (map-ForHead Stmt ForHead p.Stmt p.Head placed_stmt placed_head x))

abbrev head_of : ForHead-F KnownStmt KnownHead → ForHead-F Stmt ForHead
head_of = map-ForHead KnownStmt KnownHead Stmt ForHead (λ e. e.0) (λ e. e.0)

head_parts_agree : (init : Option KnownStmt) (init_at : ℕ) (test : Option Expr) (test_at : ℕ) (step : Option KnownStmt) (step_at : ℕ)
    → HeadLayerAgrees (head_of (record { init = init; init_at = init_at; test = test; test_at = test_at; step = step; step_at = step_at }))
head_parts_agree None init_at test test_at None step_at = λ i. b.head b.no_stmt (bare_option_is test i) b.no_stmt
head_parts_agree None init_at test test_at (Some step) step_at = λ i. b.head b.no_stmt (bare_option_is test i) (b.a_stmt (step.1 i))
head_parts_agree (Some init) init_at test test_at None step_at = λ i. b.head (b.a_stmt (init.1 i)) (bare_option_is test i) b.no_stmt
head_parts_agree (Some init) init_at test test_at (Some step) step_at = λ i. b.head (b.a_stmt (init.1 i)) (bare_option_is test i) (b.a_stmt (step.1 i))

head_layer_agrees : (y : ForHead-F KnownStmt KnownHead) → HeadLayerAgrees (head_of y)
head_layer_agrees y = head_parts_agree y.init y.init_at y.test y.test_at y.step y.step_at

head_step : (x : ForHead-F Stmt ForHead) (y : ForHead-F KnownStmt KnownHead) → head_of y ≡ x → HeadIs (roll-ForHead x)
head_step x y is =
    fold-roll-ForHead b.Stmt b.Head bare.stmt_layer bare.head_layer x
    ∙ subst HeadLayerAgrees is (head_layer_agrees y)
    ∙ sym (ap forget_head (fold-roll-ForHead p.Stmt p.Head placed.stmt_layer placed.head_layer x))

-- ---- the bare trees
pub bare_stmt_is : (t : Stmt) → bare_stmt t ≡ forget_stmt (placed_stmt t)
bare_stmt_is = ind-Stmt StmtIs HeadIs stmt_step head_step

pub bare_head_is : (t : ForHead) → bare_head t ≡ forget_head (placed_head t)
bare_head_is = ind-ForHead StmtIs HeadIs stmt_step head_step

pub bare_stmts_is : (ss : List Stmt) → bare_stmts ss ≡ forget_stmts (placed_stmts ss)
bare_stmts_is [] = refl
bare_stmts_is (s ∷ ss) = λ i. b.more_stmts (bare_stmt_is s i) (bare_stmts_is ss i)
