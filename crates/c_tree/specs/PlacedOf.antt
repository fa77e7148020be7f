-- The tree with places of a tree of the code: the same nodes and places, by one layer for each type, as in BareOf.
use Rattle.std.specs.Prelude.{List, [], ◌∷◌, map, Option, Some, None}
use Rattle.std.specs.Option.{option_map}
use Rattle.c_tree.specs.declared.tree.Expr.{Expr, Expr-F, fold-Expr}
use Rattle.c_tree.specs.declared.tree.Expr.TheOpen as e
use Rattle.c_tree.specs.declared.tree.Target.{Target}
use Rattle.c_tree.specs.declared.tree.Count.{Count}
use Rattle.c_tree.specs.declared.tree.Count.TheVariants.{Fill, Given}
use Rattle.c_tree.specs.declared.tree.Directive.{Directive, Directive-F, fold-Directive}
use Rattle.c_tree.specs.declared.tree.Clause.{Clause, Clause-F, fold-Clause}
use Rattle.c_tree.specs.declared.tree.ClauseKind.{ClauseKind, ClauseKind-F, fold-ClauseKind}
use Rattle.c_tree.specs.declared.tree.ApplyItem.{ApplyItem, ApplyItem-F, fold-ApplyItem}
use Rattle.c_tree.specs.declared.tree.ApplyItem.TheOpen as d
use Rattle.c_tree.specs.declared.tree.Stmt.{Stmt, Stmt-F, fold-Stmt}
use Rattle.c_tree.specs.declared.tree.ForHead.{ForHead, ForHead-F, fold-ForHead}
use Rattle.c_tree.specs.declared.tree.Stmt.TheOpen as s
use Rattle.c_tree.specs.declared.tree.Span.{Span}
use Rattle.c_tree.specs.declared.tree.Param.{Param}
use Rattle.c_tree.specs.declared.tree.Item.{Item}
use Rattle.c_tree.specs.declared.tree.Item.TheVariants as i
use Rattle.c_tree.specs.declared.tree.Program.{Program}
use Rattle.c_tree.specs.Placed as p
use Rattle.c_tree.specs.Placed.{no_exprs, more_exprs, no_clauses, more_clauses, no_items, more_items, no_stmts, more_stmts, no_stmt, a_stmt}

abbrev pub gather_exprs : List p.Expr → p.Exprs
gather_exprs [] = no_exprs
gather_exprs (e ∷ es) = more_exprs e (gather_exprs es)

abbrev pub expr_layer : Expr-F p.Expr → p.Expr
expr_layer (e.Num n ty s) = p.num n ty s
expr_layer (e.Read x s) = p.read x s
expr_layer (e.Item x subs s) = p.item x (gather_exprs subs) s
expr_layer (e.Un op e s) = p.un op e s
expr_layer (e.Bin op l r s) = p.bin op l r s
expr_layer (e.Cond t y n s) = p.cond t y n s
expr_layer (e.Cast ty e s) = p.cast ty e s

abbrev pub placed_expr : Expr → p.Expr
placed_expr = fold-Expr p.Expr expr_layer

abbrev pub placed_exprs : List Expr → p.Exprs
placed_exprs es = gather_exprs (map placed_expr es)

abbrev pub placed_target : Target → p.Target
placed_target t = p.target t.name (placed_exprs t.subs) t.span

abbrev pub placed_count : Count → p.Count
placed_count (Fill s) = p.fill s
placed_count (Given e) = p.given (placed_expr e)

abbrev pub gather_clauses : List p.Clause → p.Clauses
gather_clauses [] = no_clauses
gather_clauses (c ∷ cs) = more_clauses c (gather_clauses cs)

abbrev pub gather_items : List p.Item → p.Items
gather_items [] = no_items
gather_items (i ∷ is) = more_items i (gather_items is)

abbrev pub item_layer : ApplyItem-F p.Item p.ClauseKind p.Clause p.Directive → p.Item
item_layer (d.Nothing s) = p.nothing s
item_layer (d.ApplyItem::Apply d) = p.acts d

abbrev pub kind_layer : ClauseKind-F p.Item p.ClauseKind p.Clause p.Directive → p.ClauseKind
kind_layer (d.Sizes es) = p.sizes (placed_exprs es)
kind_layer (d.Permutation es) = p.permutation (placed_exprs es)
kind_layer (d.Counts cs) = p.counts (map placed_count cs)
kind_layer (d.LoopRange first count) = p.looprange (placed_expr first) (placed_expr count)
kind_layer d.Full = p.full
kind_layer (d.Partial factor) = p.partial (option_map placed_expr factor)
kind_layer (d.ClauseKind::Apply m es is) = p.apply m (placed_exprs es) (gather_items is)

abbrev pub clause_layer : Clause-F p.Item p.ClauseKind p.Clause p.Directive → p.Clause
clause_layer c = p.clause c.kind c.span

abbrev pub directive_layer : Directive-F p.Item p.ClauseKind p.Clause p.Directive → p.Directive
directive_layer d = p.directive d.kind (gather_clauses d.clauses) d.span

abbrev pub placed_directive : Directive → p.Directive
placed_directive = fold-Directive p.Item p.ClauseKind p.Clause p.Directive item_layer kind_layer clause_layer directive_layer

abbrev pub placed_clause : Clause → p.Clause
placed_clause = fold-Clause p.Item p.ClauseKind p.Clause p.Directive item_layer kind_layer clause_layer directive_layer

abbrev pub placed_kind : ClauseKind → p.ClauseKind
placed_kind = fold-ClauseKind p.Item p.ClauseKind p.Clause p.Directive item_layer kind_layer clause_layer directive_layer

abbrev pub placed_clauses : List Clause → p.Clauses
placed_clauses cs = gather_clauses (map placed_clause cs)

abbrev pub placed_item : ApplyItem → p.Item
placed_item = fold-ApplyItem p.Item p.ClauseKind p.Clause p.Directive item_layer kind_layer clause_layer directive_layer

abbrev pub placed_items : List ApplyItem → p.Items
placed_items is = gather_items (map placed_item is)

abbrev pub gather_stmts : List p.Stmt → p.Stmts
gather_stmts [] = no_stmts
gather_stmts (s ∷ ss) = more_stmts s (gather_stmts ss)

abbrev pub maybe_stmt : Option p.Stmt → p.MaybeStmt
maybe_stmt None = no_stmt
maybe_stmt (Some s) = a_stmt s

abbrev pub if_layer : p.Expr → p.Stmts → Option (List p.Stmt) → Span → p.Stmt
if_layer e ss None s = p.if_ e ss s
if_layer e ss (Some ts) s = p.if_else e ss (gather_stmts ts) s

abbrev pub stmt_layer : Stmt-F p.Stmt p.Head → p.Stmt
stmt_layer (s.Decl ty x at init s) = p.decl ty x at (option_map placed_expr init) s
stmt_layer (s.Set t op e s) = p.set (placed_target t) op (placed_expr e) s
stmt_layer (s.Step t up s) = p.step (placed_target t) up s
stmt_layer (s.Print e s) = p.print (placed_expr e) s
stmt_layer (s.Input t at s) = p.input (placed_target t) at s
stmt_layer (s.If e ss ts s) = if_layer (placed_expr e) (gather_stmts ss) ts s
stmt_layer (s.While e body s) = p.while_ (placed_expr e) (gather_stmts body) s
stmt_layer (s.Do body e s) = p.do_ (gather_stmts body) (placed_expr e) s
stmt_layer (s.For h body s) = p.for_ h (gather_stmts body) s
stmt_layer (s.Block body s) = p.block (gather_stmts body) s
stmt_layer (s.Break s) = p.break_ s
stmt_layer (s.Continue s) = p.continue_ s
stmt_layer (s.Empty s) = p.empty s
stmt_layer (s.Omp d body s) = p.omp (placed_directive d) (gather_stmts body) s
stmt_layer (s.Call x at args s) = p.call x at (placed_exprs args) s

abbrev pub head_layer : ForHead-F p.Stmt p.Head → p.Head
head_layer h = p.head (maybe_stmt h.init) h.init_at (option_map placed_expr h.test) h.test_at (maybe_stmt h.step) h.step_at

abbrev pub placed_stmt : Stmt → p.Stmt
placed_stmt = fold-Stmt p.Stmt p.Head stmt_layer head_layer

abbrev pub placed_head : ForHead → p.Head
placed_head = fold-ForHead p.Stmt p.Head stmt_layer head_layer

abbrev pub placed_stmts : List Stmt → p.Stmts
placed_stmts ss = gather_stmts (map placed_stmt ss)

abbrev pub placed_param : Param → p.Param
placed_param p = record { ty = p.ty; name = p.name; name_span = p.name_span }

abbrev pub placed_top : Item → p.Top
placed_top (i.Define x negative n ty at) = p.define x negative n ty at
placed_top (i.Extern port s) = p.extern_ port s
placed_top (i.Global ty x at dims init) = p.global ty x at (placed_exprs dims) (option_map placed_expr init)
placed_top (i.Function x at params body s) = p.function x at (map placed_param params) (placed_stmts body) s
placed_top (i.Main body s) = p.main (placed_stmts body) s

abbrev pub placed_program : Program → p.Program
placed_program program = map placed_top program.items
