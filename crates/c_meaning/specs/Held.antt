-- Each literal has a value that its type holds.
use Rattle.std.specs.Prelude.{Option, Some, None}
use Rattle.c_tree.specs.Bare.{Expr, num, read, item, un, bin, cond, cast, Exprs, no_exprs, more_exprs, Target, target}
use Rattle.c_tree.specs.Constants.{IsHeld}

abbrev mutual
  pub HeldExpr : Expr → Type 0
  HeldExpr (num k t) = IsHeld t k
  HeldExpr (read x) = Unit {0}
  HeldExpr (item x es) = HeldExprs es
  HeldExpr (un op a) = HeldExpr a
  HeldExpr (bin op a b) = HeldExpr a × HeldExpr b
  HeldExpr (cond a b c) = HeldExpr a × HeldExpr b × HeldExpr c
  HeldExpr (cast t a) = HeldExpr a

  pub HeldExprs : Exprs → Type 0
  HeldExprs no_exprs = Unit {0}
  HeldExprs (more_exprs e es) = HeldExpr e × HeldExprs es

abbrev pub HeldOption : Option Expr → Type 0
HeldOption None = Unit {0}
HeldOption (Some e) = HeldExpr e

abbrev pub HeldTarget : Target → Type 0
HeldTarget (target x es) = HeldExprs es
