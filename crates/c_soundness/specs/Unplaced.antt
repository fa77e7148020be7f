-- The tree with places of a bare tree in which each place is 0: where only the names matter, any places serve.
use Rattle.std.specs.Prelude.{map}
use Rattle.std.specs.Option.{option_map}
use Rattle.c_tree.specs.Bare as b
use Rattle.c_tree.specs.Placed as p
use Rattle.c_tree.specs.declared.tree.Span.{Span}

abbrev pub no_span : Span
no_span = record { start = 0; end = 0 }

abbrev mutual
  pub unplaced_expr : b.Expr → p.Expr
  unplaced_expr (b.num n t) = p.num n t no_span
  unplaced_expr (b.read x) = p.read x no_span
  unplaced_expr (b.item x es) = p.item x (unplaced_exprs es) no_span
  unplaced_expr (b.un op a) = p.un op (unplaced_expr a) no_span
  unplaced_expr (b.bin op l r) = p.bin op (unplaced_expr l) (unplaced_expr r) no_span
  unplaced_expr (b.cond t y n) = p.cond (unplaced_expr t) (unplaced_expr y) (unplaced_expr n) no_span
  unplaced_expr (b.cast t a) = p.cast t (unplaced_expr a) no_span

  pub unplaced_exprs : b.Exprs → p.Exprs
  unplaced_exprs b.no_exprs = p.no_exprs
  unplaced_exprs (b.more_exprs e es) = p.more_exprs (unplaced_expr e) (unplaced_exprs es)

abbrev pub unplaced_target : b.Target → p.Target
unplaced_target (b.target x es) = p.target x (unplaced_exprs es) no_span

abbrev pub unplaced_count : b.Count → p.Count
unplaced_count b.fill = p.fill no_span
unplaced_count (b.given e) = p.given (unplaced_expr e)

abbrev mutual
  pub unplaced_directive : b.Directive → p.Directive
  unplaced_directive (b.directive kind cs) = p.directive kind (unplaced_clauses cs) no_span

  pub unplaced_clauses : b.Clauses → p.Clauses
  unplaced_clauses b.no_clauses = p.no_clauses
  unplaced_clauses (b.more_clauses c cs) = p.more_clauses (p.clause (unplaced_kind c) no_span) (unplaced_clauses cs)

  pub unplaced_kind : b.Clause → p.ClauseKind
  unplaced_kind (b.sizes es) = p.sizes (unplaced_exprs es)
  unplaced_kind (b.permutation es) = p.permutation (unplaced_exprs es)
  unplaced_kind (b.counts cs) = p.counts (map unplaced_count cs)
  unplaced_kind (b.looprange first count) = p.looprange (unplaced_expr first) (unplaced_expr count)
  unplaced_kind b.full = p.full
  unplaced_kind (b.partial factor) = p.partial (option_map unplaced_expr factor)
  unplaced_kind (b.apply m es is) = p.apply m (unplaced_exprs es) (unplaced_items is)

  pub unplaced_items : b.Items → p.Items
  unplaced_items b.no_items = p.no_items
  unplaced_items (b.more_items i is) = p.more_items (unplaced_item i) (unplaced_items is)

  pub unplaced_item : b.Item → p.Item
  unplaced_item b.nothing = p.nothing no_span
  unplaced_item (b.acts d) = p.acts (unplaced_directive d)

abbrev mutual
  pub unplaced_stmt : b.Stmt → p.Stmt
  unplaced_stmt (b.decl t x init) = p.decl t x no_span (option_map unplaced_expr init) no_span
  unplaced_stmt (b.set t op e) = p.set (unplaced_target t) op (unplaced_expr e) no_span
  unplaced_stmt (b.step t up) = p.step (unplaced_target t) up no_span
  unplaced_stmt (b.print e) = p.print (unplaced_expr e) no_span
  unplaced_stmt (b.input t) = p.input (unplaced_target t) 0 no_span
  unplaced_stmt (b.if_ e a) = p.if_ (unplaced_expr e) (unplaced_stmts a) no_span
  unplaced_stmt (b.if_else e y n) = p.if_else (unplaced_expr e) (unplaced_stmts y) (unplaced_stmts n) no_span
  unplaced_stmt (b.while_ e a) = p.while_ (unplaced_expr e) (unplaced_stmts a) no_span
  unplaced_stmt (b.do_ a e) = p.do_ (unplaced_stmts a) (unplaced_expr e) no_span
  unplaced_stmt (b.for_ h a) = p.for_ (unplaced_head h) (unplaced_stmts a) no_span
  unplaced_stmt (b.block a) = p.block (unplaced_stmts a) no_span
  unplaced_stmt b.break_ = p.break_ no_span
  unplaced_stmt b.continue_ = p.continue_ no_span
  unplaced_stmt b.empty = p.empty no_span
  unplaced_stmt (b.omp d a) = p.omp (unplaced_directive d) (unplaced_stmts a) no_span
  unplaced_stmt (b.call x es) = p.call x no_span (unplaced_exprs es) no_span

  pub unplaced_stmts : b.Stmts → p.Stmts
  unplaced_stmts b.no_stmts = p.no_stmts
  unplaced_stmts (b.more_stmts a as') = p.more_stmts (unplaced_stmt a) (unplaced_stmts as')

  pub unplaced_part : b.MaybeStmt → p.MaybeStmt
  unplaced_part b.no_stmt = p.no_stmt
  unplaced_part (b.a_stmt a) = p.a_stmt (unplaced_stmt a)

  pub unplaced_head : b.Head → p.Head
  unplaced_head (b.head init test next) = p.head (unplaced_part init) 0 (option_map unplaced_expr test) 0 (unplaced_part next) 0

abbrev pub unplaced_param : b.Param → p.Param
unplaced_param x = record { ty = x.ty; name = x.name; name_span = no_span }

abbrev pub unplaced_top : b.Top → p.Top
unplaced_top (b.define x negative n t) = p.define x negative n t no_span
unplaced_top (b.extern_ port) = p.extern_ port no_span
unplaced_top (b.global t x dims init) = p.global t x no_span (unplaced_exprs dims) (option_map unplaced_expr init)
unplaced_top (b.function x params a) = p.function x no_span (map unplaced_param params) (unplaced_stmts a) no_span
unplaced_top (b.main a) = p.main (unplaced_stmts a) no_span

abbrev pub unplaced : b.Program → p.Program
unplaced tops = map unplaced_top tops
