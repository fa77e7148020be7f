-- Programs that hold no directive.
use Rattle.std.specs.Prelude.{Bool, true, false, ◌&&◌}
use Rattle.std.specs.List.{list_all}
use Rattle.c_tree.specs.Bare.{Stmt, if_, if_else, while_, do_, for_, block, omp, Stmts, no_stmts, more_stmts, MaybeStmt, no_stmt, a_stmt, Head, head, Top, function, main, Program}

abbrev mutual
  pub is_plain_stmt : Stmt → Bool
  is_plain_stmt (if_ e a) = are_plain_stmts a
  is_plain_stmt (if_else e a b) = are_plain_stmts a && are_plain_stmts b
  is_plain_stmt (while_ e a) = are_plain_stmts a
  is_plain_stmt (do_ a e) = are_plain_stmts a
  is_plain_stmt (for_ h a) = is_plain_head h && are_plain_stmts a
  is_plain_stmt (block a) = are_plain_stmts a
  is_plain_stmt (omp d a) = false
  is_plain_stmt _ = true

  pub are_plain_stmts : Stmts → Bool
  are_plain_stmts no_stmts = true
  are_plain_stmts (more_stmts a as') = is_plain_stmt a && are_plain_stmts as'

  pub is_plain_part : MaybeStmt → Bool
  is_plain_part no_stmt = true
  is_plain_part (a_stmt a) = is_plain_stmt a

  pub is_plain_head : Head → Bool
  is_plain_head (head i e next) = is_plain_part i && is_plain_part next

abbrev pub is_plain_top : Top → Bool
is_plain_top (function x ps a) = are_plain_stmts a
is_plain_top (main a) = are_plain_stmts a
is_plain_top _ = true

abbrev pub is_plain : Program → Bool
is_plain = list_all is_plain_top
