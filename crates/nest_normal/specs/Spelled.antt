-- Whether code spells a name: in a declaration, in an expression, as what is assigned, or as what is called; and a nest
-- without the declarations that nothing reads.
use Rattle.std.specs.Prelude.{Option, Some, None, Bool, false, not, ◌||◌, bytes_eq, if◌then◌else◌}
use Rattle.c_tree.specs.Bare.{Name, Expr, num, read, item, un, bin, cond, cast, Exprs, no_exprs, more_exprs, Target, target, Stmt, decl, set, step, print, input, if_, if_else, while_, do_, for_, block, break_, continue_, empty, omp, call, Stmts, no_stmts, more_stmts, Head, head, MaybeStmt, no_stmt, a_stmt}
use Rattle.loop_normal.specs.Gens.{GenLoop, gen_loop, Inner, Nest, Seq, Part, Looped, Plain, Parts, no_parts, more_parts}

abbrev mutual
  pub in_expr : Name → Expr → Bool
  in_expr x (num k t) = false
  in_expr x (read y) = bytes_eq y x
  in_expr x (item y es) = bytes_eq y x || in_exprs x es
  in_expr x (un op a) = in_expr x a
  in_expr x (bin op a b) = in_expr x a || in_expr x b
  in_expr x (cond a b c) = in_expr x a || in_expr x b || in_expr x c
  in_expr x (cast t a) = in_expr x a

  pub in_exprs : Name → Exprs → Bool
  in_exprs x no_exprs = false
  in_exprs x (more_exprs e es) = in_expr x e || in_exprs x es

abbrev pub in_option : Name → Option Expr → Bool
in_option x None = false
in_option x (Some e) = in_expr x e

abbrev pub in_target : Name → Target → Bool
in_target x (target y es) = bytes_eq y x || in_exprs x es

-- what stands in a directive is constant
abbrev mutual
  pub in_stmt : Name → Stmt → Bool
  in_stmt x (decl t y e) = bytes_eq y x || in_option x e
  in_stmt x (set t op e) = in_target x t || in_expr x e
  in_stmt x (step t up) = in_target x t
  in_stmt x (print e) = in_expr x e
  in_stmt x (input t) = in_target x t
  in_stmt x (if_ e a) = in_expr x e || in_stmts x a
  in_stmt x (if_else e a b) = in_expr x e || in_stmts x a || in_stmts x b
  in_stmt x (while_ e a) = in_expr x e || in_stmts x a
  in_stmt x (do_ a e) = in_stmts x a || in_expr x e
  in_stmt x (for_ h a) = in_head x h || in_stmts x a
  in_stmt x (block a) = in_stmts x a
  in_stmt x break_ = false
  in_stmt x continue_ = false
  in_stmt x empty = false
  in_stmt x (omp d a) = in_stmts x a
  in_stmt x (call f es) = bytes_eq f x || in_exprs x es

  pub in_stmts : Name → Stmts → Bool
  in_stmts x no_stmts = false
  in_stmts x (more_stmts a as') = in_stmt x a || in_stmts x as'

  pub in_head : Name → Head → Bool
  in_head x (head i e next) = in_maybe x i || in_option x e || in_maybe x next

  pub in_maybe : Name → MaybeStmt → Bool
  in_maybe x no_stmt = false
  in_maybe x (a_stmt a) = in_stmt x a

-- ---- nests

abbrev mutual
  pub in_loop : Name → GenLoop → Bool
  in_loop x (gen_loop ls c a b inner) = in_stmts x ls || bytes_eq c x || in_expr x a || in_expr x b || in_inner x inner

  pub in_inner : Name → Inner → Bool
  in_inner x (Nest l) = in_loop x l
  in_inner x (Seq ps) = in_parts x ps

  pub in_part : Name → Part → Bool
  in_part x (Looped l) = in_loop x l
  in_part x (Plain as') = in_stmts x as'

  pub in_parts : Name → Parts → Bool
  in_parts x no_parts = false
  in_parts x (more_parts p ps) = in_part x p || in_parts x ps

-- a declaration of a name that is spelled nowhere after it
abbrev pub is_unread : Stmt → GenLoop → Bool
is_unread (decl t x e) l = not (in_loop x l)
is_unread d l = false

-- a statement more before a loop
abbrev pub before : Stmt → GenLoop → GenLoop
before d (gen_loop ls c a b inner) = gen_loop (more_stmts d ls) c a b inner

abbrev pub before_if_read : Stmt → GenLoop → GenLoop
before_if_read d l = if is_unread d l then l else before d l

abbrev pub all_if_read : Stmts → GenLoop → GenLoop
all_if_read no_stmts l = l
all_if_read (more_stmts d ls) l = before_if_read d (all_if_read ls l)

-- without the declarations before its loops that nothing after them spells
abbrev mutual
  pub without_unread : GenLoop → GenLoop
  without_unread (gen_loop ls c a b inner) = all_if_read ls (gen_loop no_stmts c a b (below_without_unread inner))

  pub below_without_unread : Inner → Inner
  below_without_unread (Nest l) = Nest (without_unread l)
  below_without_unread (Seq ps) = Seq ps
