-- Programs with other names, and those that hold no directive.
use Rattle.std.specs.Prelude.{[], ◌∷◌, map}
use Rattle.std.specs.Option.{option_map}
use Rattle.c_tree.specs.Bare.{Name, Expr, num, read, item, un, bin, cond, cast, Exprs, no_exprs, more_exprs, Target, target, Stmt, decl, set, step, print, input, if_, if_else, while_, do_, for_, block, break_, continue_, empty, omp, call, Stmts, no_stmts, more_stmts, MaybeStmt, no_stmt, a_stmt, Head, head, Param, Top, define, extern_, global, function, main, Program}

-- what becomes of a name
abbrev pub Renaming : Type 0
Renaming = Name → Name

abbrev mutual
  pub renamed_expr : Renaming → Expr → Expr
  renamed_expr f (num k t) = num k t
  renamed_expr f (read x) = read (f x)
  renamed_expr f (item x es) = item (f x) (renamed_exprs f es)
  renamed_expr f (un op a) = un op (renamed_expr f a)
  renamed_expr f (bin op a b) = bin op (renamed_expr f a) (renamed_expr f b)
  renamed_expr f (cond a b c) = cond (renamed_expr f a) (renamed_expr f b) (renamed_expr f c)
  renamed_expr f (cast t a) = cast t (renamed_expr f a)

  pub renamed_exprs : Renaming → Exprs → Exprs
  renamed_exprs f no_exprs = no_exprs
  renamed_exprs f (more_exprs e es) = more_exprs (renamed_expr f e) (renamed_exprs f es)

abbrev pub renamed_target : Renaming → Target → Target
renamed_target f (target x es) = target (f x) (renamed_exprs f es)

-- what stands in a directive stays as it is
abbrev mutual
  pub renamed_stmt : Renaming → Stmt → Stmt
  renamed_stmt f (decl t x init) = decl t (f x) (option_map (renamed_expr f) init)
  renamed_stmt f (set t op e) = set (renamed_target f t) op (renamed_expr f e)
  renamed_stmt f (step t up) = step (renamed_target f t) up
  renamed_stmt f (print e) = print (renamed_expr f e)
  renamed_stmt f (input t) = input (renamed_target f t)
  renamed_stmt f (if_ e a) = if_ (renamed_expr f e) (renamed_stmts f a)
  renamed_stmt f (if_else e a b) = if_else (renamed_expr f e) (renamed_stmts f a) (renamed_stmts f b)
  renamed_stmt f (while_ e a) = while_ (renamed_expr f e) (renamed_stmts f a)
  renamed_stmt f (do_ a e) = do_ (renamed_stmts f a) (renamed_expr f e)
  renamed_stmt f (for_ h a) = for_ (renamed_head f h) (renamed_stmts f a)
  renamed_stmt f (block a) = block (renamed_stmts f a)
  renamed_stmt f break_ = break_
  renamed_stmt f continue_ = continue_
  renamed_stmt f empty = empty
  renamed_stmt f (omp d a) = omp d (renamed_stmts f a)
  renamed_stmt f (call x es) = call (f x) (renamed_exprs f es)

  pub renamed_stmts : Renaming → Stmts → Stmts
  renamed_stmts f no_stmts = no_stmts
  renamed_stmts f (more_stmts a as') = more_stmts (renamed_stmt f a) (renamed_stmts f as')

  pub renamed_part : Renaming → MaybeStmt → MaybeStmt
  renamed_part f no_stmt = no_stmt
  renamed_part f (a_stmt a) = a_stmt (renamed_stmt f a)

  pub renamed_head : Renaming → Head → Head
  renamed_head f (head i e next) = head (renamed_part f i) (option_map (renamed_expr f) e) (renamed_part f next)

abbrev pub renamed_param : Renaming → Param → Param
renamed_param f p = record { ty = p.ty; name = f p.name }

abbrev pub renamed_top : Renaming → Top → Top
renamed_top f (define x negative k t) = define (f x) negative k t
renamed_top f (extern_ port) = extern_ port
renamed_top f (global t x dims init) = global t (f x) (renamed_exprs f dims) (option_map (renamed_expr f) init)
renamed_top f (function x ps a) = function (f x) (map (renamed_param f) ps) (renamed_stmts f a)
renamed_top f (main a) = main (renamed_stmts f a)

abbrev pub renamed_program : Renaming → Program → Program
renamed_program f = map (renamed_top f)

-- ---- no directive stands in them

abbrev mutual
  pub PlainStmt : Stmt → Type 0
  PlainStmt (if_ e a) = PlainStmts a
  PlainStmt (if_else e a b) = PlainStmts a × PlainStmts b
  PlainStmt (while_ e a) = PlainStmts a
  PlainStmt (do_ a e) = PlainStmts a
  PlainStmt (for_ (head i e next) a) = PlainPart i × PlainPart next × PlainStmts a
  PlainStmt (block a) = PlainStmts a
  PlainStmt (omp d a) = ⊥
  PlainStmt _ = Unit {0}

  pub PlainStmts : Stmts → Type 0
  PlainStmts no_stmts = Unit {0}
  PlainStmts (more_stmts a as') = PlainStmt a × PlainStmts as'

  pub PlainPart : MaybeStmt → Type 0
  PlainPart no_stmt = Unit {0}
  PlainPart (a_stmt a) = PlainStmt a

abbrev pub PlainTop : Top → Type 0
PlainTop (function x ps a) = PlainStmts a
PlainTop (main a) = PlainStmts a
PlainTop _ = Unit {0}

abbrev pub PlainProgram : Program → Type 0
PlainProgram [] = Unit {0}
PlainProgram (t ∷ ts) = PlainTop t × PlainProgram ts
