-- The variables that expressions and statements name, and the functions that statements call.
use Rattle.std.specs.Prelude.{Option, Some, None}
use Rattle.c_tree.specs.Bare.{Name, Expr, num, read, item, un, bin, cond, cast, Exprs, no_exprs, more_exprs, Target, target, Stmt, decl, set, step, print, input, if_, if_else, while_, do_, for_, block, break_, continue_, empty, omp, call, Stmts, no_stmts, more_stmts, head, MaybeStmt, no_stmt, a_stmt}

abbrev mutual
  -- P holds of each name that is spelled in an expression
  pub Names : (Name → Type 0) → Expr → Type 0
  Names P (num k t) = Unit {0}
  Names P (read y) = P y
  Names P (item y es) = P y × NamesEach P es
  Names P (un op a) = Names P a
  Names P (bin op a b) = Names P a × Names P b
  Names P (cond a b c) = Names P a × Names P b × Names P c
  Names P (cast t a) = Names P a

  pub NamesEach : (Name → Type 0) → Exprs → Type 0
  NamesEach P no_exprs = Unit {0}
  NamesEach P (more_exprs e es) = Names P e × NamesEach P es

abbrev pub NamesIf : (Name → Type 0) → Option Expr → Type 0
NamesIf P None = Unit {0}
NamesIf P (Some e) = Names P e

abbrev pub NamesIn : (Name → Type 0) → Target → Type 0
NamesIn P (target y es) = P y × NamesEach P es

abbrev mutual
  -- P holds of each variable that a statement names, in declarations, heads and bodies, and C of each function that it
  -- calls; what stands in a directive is constant
  pub Uses : (P C : Name → Type 0) → Stmt → Type 0
  Uses P C (decl t y e) = P y × NamesIf P e
  Uses P C (set t op e) = NamesIn P t × Names P e
  Uses P C (step t up) = NamesIn P t
  Uses P C (print e) = Names P e
  Uses P C (input t) = NamesIn P t
  Uses P C (if_ e a) = Names P e × UsesAll P C a
  Uses P C (if_else e a b) = Names P e × UsesAll P C a × UsesAll P C b
  Uses P C (while_ e a) = Names P e × UsesAll P C a
  Uses P C (do_ a e) = UsesAll P C a × Names P e
  Uses P C (for_ (head i e next) a) = UsesIf P C i × NamesIf P e × UsesIf P C next × UsesAll P C a
  Uses P C (block a) = UsesAll P C a
  Uses P C break_ = Unit {0}
  Uses P C continue_ = Unit {0}
  Uses P C empty = Unit {0}
  Uses P C (omp d a) = UsesAll P C a
  Uses P C (call f es) = C f × NamesEach P es

  pub UsesAll : (P C : Name → Type 0) → Stmts → Type 0
  UsesAll P C no_stmts = Unit {0}
  UsesAll P C (more_stmts a as') = Uses P C a × UsesAll P C as'

  pub UsesIf : (P C : Name → Type 0) → MaybeStmt → Type 0
  UsesIf P C no_stmt = Unit {0}
  UsesIf P C (a_stmt a) = Uses P C a
