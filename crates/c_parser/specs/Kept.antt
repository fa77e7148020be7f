-- What a reader keeps of statements and items, as it does of expressions: each with its height, or, where a part is too
-- deep, the place of the first that is.
use Rattle.std.specs.Prelude.{ℕ, ◌+◌, nat_le, cond, List, Option}
use Rattle.std.specs.Option.{option_map}
use Rattle.c_tree.specs.Placed.{Expr, Target, Stmt, Stmts, no_stmts, more_stmts, MaybeStmt, Head, Top}
use Rattle.c_tree.specs.PlacedOf.{placed_expr, placed_target, placed_stmt, placed_stmts, placed_head, maybe_stmt}
use Rattle.c_tree.specs.Forget.{forget_target, forget_stmt, forget_stmts, forget_maybe, forget_head, forget_top, forget_expr}
use Rattle.c_tree.specs.Height.{target_height, stmt_height, stmts_height, part_height, head_height, option_height, top_height}
use Rattle.c_tree.specs.declared.tree.Expr as code_expr
use Rattle.c_tree.specs.declared.tree.Target as code_target
use Rattle.c_tree.specs.declared.tree.Stmt as code_stmt
use Rattle.c_tree.specs.declared.tree.ForHead as code_head
use Rattle.pragma_grammar.specs.declared.directive_kept.Kept as code
use Rattle.pragma_grammar.specs.Deep.{deep_option}
use Rattle.pragma_grammar.specs.DirectiveKept.{Kept, kept, deep, kept_or}
use Rattle.pragma_grammar.specs.DirectiveStands.{kept_as}
use Rattle.c_grammar.specs.Reading.{deep_target, deep_stmt, deep_stmts, deep_part, deep_head, deep_top}

-- ---- what the code's trees stand for

abbrev pub target_of : code.Kept code_target.Target → Kept Target
target_of k = kept_as placed_target k

abbrev pub stmt_of : code.Kept code_stmt.Stmt → Kept Stmt
stmt_of k = kept_as placed_stmt k

abbrev pub stmts_of : code.Kept (List code_stmt.Stmt) → Kept Stmts
stmts_of k = kept_as placed_stmts k

abbrev pub head_of : code.Kept code_head.ForHead → Kept Head
head_of k = kept_as placed_head k

abbrev pub option_of : code.Kept (Option code_expr.Expr) → Kept (Option Expr)
option_of k = kept_as (λ o. option_map placed_expr o) k

abbrev pub part_of : code.Kept (Option code_stmt.Stmt) → Kept MaybeStmt
part_of k = kept_as (λ o. maybe_stmt (option_map placed_stmt o)) k

-- ---- what is kept of a tree

abbrev pub keep_option : Option Expr → Kept (Option Expr)
keep_option o = kept_or (deep_option o) (option_height (option_map forget_expr o)) o

abbrev pub keep_target : Target → Kept Target
keep_target t = kept_or (deep_target t) (target_height (forget_target t)) t

abbrev pub keep_stmt : Stmt → Kept Stmt
keep_stmt s = kept_or (deep_stmt s) (stmt_height (forget_stmt s)) s

abbrev pub keep_stmts : Stmts → Kept Stmts
keep_stmts ss = kept_or (deep_stmts ss) (stmts_height (forget_stmts ss)) ss

abbrev pub keep_part : MaybeStmt → Kept MaybeStmt
keep_part s = kept_or (deep_part s) (part_height (forget_maybe s)) s

abbrev pub keep_head : Head → Kept Head
keep_head h = kept_or (deep_head h) (head_height (forget_head h)) h

abbrev pub keep_top : Top → ℕ → Kept Top
keep_top t start = kept_or (deep_top t start) (top_height (forget_top t)) t

-- ---- how a tree is built

-- a node over parts of this height, which begins there
abbrev pub node : {X : Type 0} → ℕ → ℕ → X → Kept X
node height start x = cond (nat_le 257 (1 + height)) (deep start) (kept (1 + height) x)

abbrev pub node_of : {X : Type 0} → ℕ → Kept X → Kept X
node_of start (kept height x) = node height start x
node_of start (deep p) = deep p

-- statements in their order
abbrev pub join : Stmts → Stmts → Stmts
join no_stmts rs = rs
join (more_stmts s ss) rs = more_stmts s (join ss rs)

abbrev pub join_last : Stmts → Stmt → Stmts
join_last ss s = join ss (more_stmts s no_stmts)

abbrev pub pair : {X Y : Type 0} → X → Y → X × Y
pair x y = (x, y)
