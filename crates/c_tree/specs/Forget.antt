-- What is left of a tree with places when its places are forgotten: the bare tree.
use Rattle.std.specs.Prelude.{map}
use Rattle.std.specs.Option.{option_map}
use Rattle.c_tree.specs.Bare as b
use Rattle.c_tree.specs.Placed as p

abbrev mutual
  pub forget_expr : p.Expr → b.Expr
  forget_expr (p.num n ty s) = b.num n ty
  forget_expr (p.read x s) = b.read x
  forget_expr (p.item x es s) = b.item x (forget_exprs es)
  forget_expr (p.un op e s) = b.un op (forget_expr e)
  forget_expr (p.bin op l r s) = b.bin op (forget_expr l) (forget_expr r)
  forget_expr (p.cond t y n s) = b.cond (forget_expr t) (forget_expr y) (forget_expr n)
  forget_expr (p.cast ty e s) = b.cast ty (forget_expr e)

  pub forget_exprs : p.Exprs → b.Exprs
  forget_exprs p.no_exprs = b.no_exprs
  forget_exprs (p.more_exprs e es) = b.more_exprs (forget_expr e) (forget_exprs es)

abbrev pub forget_target : p.Target → b.Target
forget_target (p.target x es s) = b.target x (forget_exprs es)

abbrev pub forget_count : p.Count → b.Count
forget_count (p.fill s) = b.fill
forget_count (p.given e) = b.given (forget_expr e)

abbrev mutual
  pub forget_directive : p.Directive → b.Directive
  forget_directive (p.directive kind cs s) = b.directive kind (forget_clauses cs)

  pub forget_clauses : p.Clauses → b.Clauses
  forget_clauses p.no_clauses = b.no_clauses
  forget_clauses (p.more_clauses c cs) = b.more_clauses (forget_clause c) (forget_clauses cs)

  pub forget_clause : p.Clause → b.Clause
  forget_clause (p.clause kind s) = forget_kind kind

  pub forget_kind : p.ClauseKind → b.Clause
  forget_kind (p.sizes es) = b.sizes (forget_exprs es)
  forget_kind (p.permutation es) = b.permutation (forget_exprs es)
  forget_kind (p.counts cs) = b.counts (map forget_count cs)
  forget_kind (p.looprange first count) = b.looprange (forget_expr first) (forget_expr count)
  forget_kind p.full = b.full
  forget_kind (p.partial factor) = b.partial (option_map forget_expr factor)
  forget_kind (p.apply m es is) = b.apply m (forget_exprs es) (forget_items is)

  pub forget_items : p.Items → b.Items
  forget_items p.no_items = b.no_items
  forget_items (p.more_items i is) = b.more_items (forget_item i) (forget_items is)

  pub forget_item : p.Item → b.Item
  forget_item (p.nothing s) = b.nothing
  forget_item (p.acts d) = b.acts (forget_directive d)

abbrev mutual
  pub forget_stmt : p.Stmt → b.Stmt
  forget_stmt (p.decl ty x at init s) = b.decl ty x (option_map forget_expr init)
  forget_stmt (p.set t op e s) = b.set (forget_target t) op (forget_expr e)
  forget_stmt (p.step t up s) = b.step (forget_target t) up
  forget_stmt (p.print e s) = b.print (forget_expr e)
  forget_stmt (p.input t at s) = b.input (forget_target t)
  forget_stmt (p.if_ e ss s) = b.if_ (forget_expr e) (forget_stmts ss)
  forget_stmt (p.if_else e ss ts s) = b.if_else (forget_expr e) (forget_stmts ss) (forget_stmts ts)
  forget_stmt (p.while_ e ss s) = b.while_ (forget_expr e) (forget_stmts ss)
  forget_stmt (p.do_ ss e s) = b.do_ (forget_stmts ss) (forget_expr e)
  forget_stmt (p.for_ h ss s) = b.for_ (forget_head h) (forget_stmts ss)
  forget_stmt (p.block ss s) = b.block (forget_stmts ss)
  forget_stmt (p.break_ s) = b.break_
  forget_stmt (p.continue_ s) = b.continue_
  forget_stmt (p.empty s) = b.empty
  forget_stmt (p.omp d ss s) = b.omp (forget_directive d) (forget_stmts ss)
  forget_stmt (p.call x at es s) = b.call x (forget_exprs es)

  pub forget_stmts : p.Stmts → b.Stmts
  forget_stmts p.no_stmts = b.no_stmts
  forget_stmts (p.more_stmts s ss) = b.more_stmts (forget_stmt s) (forget_stmts ss)

  pub forget_maybe : p.MaybeStmt → b.MaybeStmt
  forget_maybe p.no_stmt = b.no_stmt
  forget_maybe (p.a_stmt s) = b.a_stmt (forget_stmt s)

  pub forget_head : p.Head → b.Head
  forget_head (p.head init init_at test test_at step step_at) = b.head (forget_maybe init) (option_map forget_expr test) (forget_maybe step)

abbrev pub forget_param : p.Param → b.Param
forget_param param = record { ty = param.ty; name = param.name }

abbrev pub forget_top : p.Top → b.Top
forget_top (p.define x negative n ty at) = b.define x negative n ty
forget_top (p.extern_ port s) = b.extern_ port
forget_top (p.global ty x at dims init) = b.global ty x (forget_exprs dims) (option_map forget_expr init)
forget_top (p.function x at params ss s) = b.function x (map forget_param params) (forget_stmts ss)
forget_top (p.main ss s) = b.main (forget_stmts ss)

abbrev pub forget_program : p.Program → b.Program
forget_program tops = map forget_top tops
