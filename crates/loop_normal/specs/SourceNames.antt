-- The names of a program that a fresh name could be equal to: those that begin as fresh names do.
use Rattle.std.specs.Prelude.{List, [], ◌∷◌, ◌++◌, Option, Some, None, Bool, nat_eq, codes, if◌then◌else◌}
use Rattle.std.specs.List.{starts_with}
use Rattle.c_tree.specs.Bare.{Name, Expr, num, read, item, un, bin, cond, cast, Exprs, no_exprs, more_exprs, Target, target, Stmt, decl, set, step, print, input, if_, if_else, while_, do_, for_, block, break_, continue_, empty, omp, call, Stmts, no_stmts, more_stmts, MaybeStmt, no_stmt, a_stmt, Head, head, Param, Top, define, extern_, global, function, main, Program}
use Rattle.loop_normal.specs.DrawnNames.{FreshNames, no_draws}
use Rattle.loop_normal.specs.TakenNames.{taken_names}

abbrev pub begins_like_fresh : Name → Bool
begins_like_fresh x = starts_with nat_eq x (codes "omp_t")

abbrev pub kept : Name → List Name
kept x = if begins_like_fresh x then x ∷ [] else []

abbrev mutual
  pub expr_names : Expr → List Name
  expr_names (num k t) = []
  expr_names (read x) = kept x
  expr_names (item x es) = kept x ++ exprs_names es
  expr_names (un op a) = expr_names a
  expr_names (bin op a b) = expr_names a ++ expr_names b
  expr_names (cond a b c) = expr_names a ++ (expr_names b ++ expr_names c)
  expr_names (cast t a) = expr_names a

  pub exprs_names : Exprs → List Name
  exprs_names no_exprs = []
  exprs_names (more_exprs e es) = expr_names e ++ exprs_names es

abbrev pub option_names : Option Expr → List Name
option_names None = []
option_names (Some e) = expr_names e

abbrev pub target_names : Target → List Name
target_names (target x es) = kept x ++ exprs_names es

-- what stands in a directive is constant, and names defines only
abbrev mutual
  pub stmt_names : Stmt → List Name
  stmt_names (decl t x e) = kept x ++ option_names e
  stmt_names (set t op e) = target_names t ++ expr_names e
  stmt_names (step t up) = target_names t
  stmt_names (print e) = expr_names e
  stmt_names (input t) = target_names t
  stmt_names (if_ e a) = expr_names e ++ stmts_names a
  stmt_names (if_else e a b) = expr_names e ++ (stmts_names a ++ stmts_names b)
  stmt_names (while_ e a) = expr_names e ++ stmts_names a
  stmt_names (do_ a e) = stmts_names a ++ expr_names e
  stmt_names (for_ h a) = head_names h ++ stmts_names a
  stmt_names (block a) = stmts_names a
  stmt_names break_ = []
  stmt_names continue_ = []
  stmt_names empty = []
  stmt_names (omp d a) = stmts_names a
  stmt_names (call x es) = kept x ++ exprs_names es

  pub stmts_names : Stmts → List Name
  stmts_names no_stmts = []
  stmts_names (more_stmts a as') = stmt_names a ++ stmts_names as'

  pub part_names : MaybeStmt → List Name
  part_names no_stmt = []
  part_names (a_stmt a) = stmt_names a

  pub head_names : Head → List Name
  head_names (head i e next) = part_names i ++ (option_names e ++ part_names next)

abbrev pub params_names : List Param → List Name
params_names [] = []
params_names (p ∷ ps) = kept p.name ++ params_names ps

abbrev pub top_names : Top → List Name
top_names (define x negative k t) = kept x
top_names (extern_ port) = []
top_names (global t x dims e) = kept x ++ (exprs_names dims ++ option_names e)
top_names (function x ps a) = kept x ++ (params_names ps ++ stmts_names a)
top_names (main a) = stmts_names a

abbrev pub program_names : Program → List Name
program_names [] = []
program_names (i ∷ is) = top_names i ++ program_names is

-- the fresh names beside a program, before any is drawn
abbrev pub beside_program : Program → FreshNames
beside_program p = no_draws (taken_names (program_names p))
