-- An `if` with or without an `else`.
use Rattle.std.specs.Prelude.{Option, Some, None}
use Rattle.c_tree.specs.Bare.{Expr, Stmts, Stmt, if_, if_else}

abbrev pub if_of : Expr → Stmts → Option Stmts → Stmt
if_of e a None = if_ e a
if_of e a (Some b) = if_else e a b
