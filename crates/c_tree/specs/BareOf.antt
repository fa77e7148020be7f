-- The bare tree of a tree of the code: the same nodes, without spans and without the places of a `for` head. Each
-- type has a layer, which says what a node gives once its children have given theirs, and is folded by it.
use Rattle.std.specs.Prelude.{List, [], ◌∷◌, map, Option, Some, None}
use Rattle.std.specs.Option.{option_map}
use Rattle.c_tree.specs.declared.tree.Expr.{Expr, Expr-F, fold-Expr}
use Rattle.c_tree.specs.declared.tree.Expr.TheOpen as e
use Rattle.c_tree.specs.declared.tree.Target.{Target}
use Rattle.c_tree.specs.declared.tree.Count.{Count}
use Rattle.c_tree.specs.declared.tree.Count.TheVariants.{Fill, Given}
use Rattle.c_tree.specs.declared.tree.Directive.{Directive, Directive-F, fold-Directive}
use Rattle.c_tree.specs.declared.tree.Clause.{Clause, Clause-F, fold-Clause}
use Rattle.c_tree.specs.declared.tree.ClauseKind.{ClauseKind, ClauseKind-F, fold-ClauseKind}
use Rattle.c_tree.specs.declared.tree.ApplyItem.{ApplyItem, ApplyItem-F, fold-ApplyItem}
use Rattle.c_tree.specs.declared.tree.ApplyItem.TheOpen as d
use Rattle.c_tree.specs.declared.tree.Stmt.{Stmt, Stmt-F, fold-Stmt}
use Rattle.c_tree.specs.declared.tree.ForHead.{ForHead, ForHead-F, fold-ForHead}
use Rattle.c_tree.specs.declared.tree.Stmt.TheOpen as s
use Rattle.c_tree.specs.declared.tree.Param.{Param}
use Rattle.c_tree.specs.declared.tree.Item.{Item}
use Rattle.c_tree.specs.declared.tree.Item.TheVariants as i
use Rattle.c_tree.specs.declared.tree.Program.{Program}
use Rattle.c_tree.specs.Bare as b
use Rattle.c_tree.specs.Bare.{no_exprs, more_exprs, no_clauses, more_clauses, no_items, more_items, no_stmts, more_stmts, no_stmt, a_stmt}

abbrev pub gather_exprs : List b.Expr → b.Exprs
gather_exprs [] = no_exprs
gather_exprs (e ∷ es) = more_exprs e (gather_exprs es)

abbrev pub expr_layer : Expr-F b.Expr → b.Expr
expr_layer (e.Num n ty s) = b.num n ty
expr_layer (e.Read x s) = b.read x
expr_layer (e.Item x subs s) = b.item x (gather_exprs subs)
expr_layer (e.Un op e s) = b.un op e
expr_layer (e.Bin op l r s) = b.bin op l r
expr_layer (e.Cond t y n s) = b.cond t y n
expr_layer (e.Cast ty e s) = b.cast ty e

abbrev pub bare_expr : Expr → b.Expr
bare_expr = fold-Expr b.Expr expr_layer

abbrev pub bare_exprs : List Expr → b.Exprs
bare_exprs es = gather_exprs (map bare_expr es)

abbrev pub bare_target : Target → b.Target
bare_target t = b.target t.name (bare_exprs t.subs)

abbrev pub bare_count : Count → b.Count
bare_count (Fill s) = b.fill
bare_count (Given e) = b.given (bare_expr e)

abbrev pub gather_clauses : List b.Clause → b.Clauses
gather_clauses [] = no_clauses
gather_clauses (c ∷ cs) = more_clauses c (gather_clauses cs)

abbrev pub gather_items : List b.Item → b.Items
gather_items [] = no_items
gather_items (i ∷ is) = more_items i (gather_items is)

abbrev pub item_layer : ApplyItem-F b.Item b.Clause b.Clause b.Directive → b.Item
item_layer (d.Nothing s) = b.nothing
item_layer (d.ApplyItem::Apply d) = b.acts d

abbrev pub kind_layer : ClauseKind-F b.Item b.Clause b.Clause b.Directive → b.Clause
kind_layer (d.Sizes es) = b.sizes (bare_exprs es)
kind_layer (d.Permutation es) = b.permutation (bare_exprs es)
kind_layer (d.Counts cs) = b.counts (map bare_count cs)
kind_layer (d.LoopRange l r) = b.looprange (bare_expr l) (bare_expr r)
kind_layer d.Full = b.full
kind_layer (d.Partial f) = b.partial (option_map bare_expr f)
kind_layer (d.ClauseKind::Apply m es is) = b.apply m (bare_exprs es) (gather_items is)

abbrev pub clause_layer : Clause-F b.Item b.Clause b.Clause b.Directive → b.Clause
clause_layer c = c.kind

abbrev pub directive_layer : Directive-F b.Item b.Clause b.Clause b.Directive → b.Directive
directive_layer d = b.directive d.kind (gather_clauses d.clauses)

abbrev pub bare_directive : Directive → b.Directive
bare_directive = fold-Directive b.Item b.Clause b.Clause b.Directive item_layer kind_layer clause_layer directive_layer

abbrev pub bare_clause : Clause → b.Clause
bare_clause = fold-Clause b.Item b.Clause b.Clause b.Directive item_layer kind_layer clause_layer directive_layer

abbrev pub bare_kind : ClauseKind → b.Clause
bare_kind = fold-ClauseKind b.Item b.Clause b.Clause b.Directive item_layer kind_layer clause_layer directive_layer

abbrev pub bare_clauses : List Clause → b.Clauses
bare_clauses cs = gather_clauses (map bare_clause cs)

abbrev pub bare_item : ApplyItem → b.Item
bare_item = fold-ApplyItem b.Item b.Clause b.Clause b.Directive item_layer kind_layer clause_layer directive_layer

abbrev pub bare_items : List ApplyItem → b.Items
bare_items is = gather_items (map bare_item is)

abbrev pub gather_stmts : List b.Stmt → b.Stmts
gather_stmts [] = no_stmts
gather_stmts (s ∷ ss) = more_stmts s (gather_stmts ss)

abbrev pub maybe_stmt : Option b.Stmt → b.MaybeStmt
maybe_stmt None = no_stmt
maybe_stmt (Some s) = a_stmt s

abbrev pub if_layer : b.Expr → b.Stmts → Option (List b.Stmt) → b.Stmt
if_layer e ss None = b.if_ e ss
if_layer e ss (Some ts) = b.if_else e ss (gather_stmts ts)

abbrev pub stmt_layer : Stmt-F b.Stmt b.Head → b.Stmt
stmt_layer (s.Decl ty x n init s) = b.decl ty x (option_map bare_expr init)
stmt_layer (s.Set t op e s) = b.set (bare_target t) op (bare_expr e)
stmt_layer (s.Step t up s) = b.step (bare_target t) up
stmt_layer (s.Print e s) = b.print (bare_expr e)
stmt_layer (s.Input t at s) = b.input (bare_target t)
stmt_layer (s.If e ss ts s) = if_layer (bare_expr e) (gather_stmts ss) ts
stmt_layer (s.While e body s) = b.while_ (bare_expr e) (gather_stmts body)
stmt_layer (s.Do body e s) = b.do_ (gather_stmts body) (bare_expr e)
stmt_layer (s.For h body s) = b.for_ h (gather_stmts body)
stmt_layer (s.Block body s) = b.block (gather_stmts body)
stmt_layer (s.Break s) = b.break_
stmt_layer (s.Continue s) = b.continue_
stmt_layer (s.Empty s) = b.empty
stmt_layer (s.Omp d body s) = b.omp (bare_directive d) (gather_stmts body)
stmt_layer (s.Call x n args s) = b.call x (bare_exprs args)

abbrev pub head_layer : ForHead-F b.Stmt b.Head → b.Head
head_layer h = b.head (maybe_stmt h.init) (option_map bare_expr h.test) (maybe_stmt h.step)

abbrev pub bare_stmt : Stmt → b.Stmt
bare_stmt = fold-Stmt b.Stmt b.Head stmt_layer head_layer

abbrev pub bare_head : ForHead → b.Head
bare_head = fold-ForHead b.Stmt b.Head stmt_layer head_layer

abbrev pub bare_stmts : List Stmt → b.Stmts
bare_stmts ss = gather_stmts (map bare_stmt ss)

abbrev pub bare_param : Param → b.Param
bare_param p = record { ty = p.ty; name = p.name }

abbrev pub bare_top : Item → b.Top
bare_top (i.Define x neg n ty at) = b.define x neg n ty
bare_top (i.Extern port s) = b.extern_ port
bare_top (i.Global ty x at dims init) = b.global ty x (bare_exprs dims) (option_map bare_expr init)
bare_top (i.Function x at ps body s) = b.function x (map bare_param ps) (bare_stmts body)
bare_top (i.Main body s) = b.main (bare_stmts body)

abbrev pub bare_program : Program → b.Program
bare_program p = map bare_top p.items
