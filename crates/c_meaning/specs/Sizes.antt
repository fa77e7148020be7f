-- How much a part of a program holds, by which runs of its parts are measured.
use Rattle.std.specs.Prelude.{ℕ, ◌+◌, [], ◌∷◌}
use Rattle.c_tree.specs.Bare.{Stmt, if_, if_else, while_, do_, for_, block, Stmts, no_stmts, more_stmts, MaybeStmt, no_stmt, a_stmt, Head, head, Top, function, main, Program}

abbrev mutual
  pub stmt_size : Stmt → ℕ
  stmt_size (if_ e a) = stmts_size a + 9
  stmt_size (if_else e a b) = stmts_size a + stmts_size b + 9
  stmt_size (while_ e a) = stmts_size a + 9
  stmt_size (do_ a e) = stmts_size a + 9
  stmt_size (for_ h a) = head_size h + stmts_size a + 9
  stmt_size (block a) = stmts_size a + 9
  stmt_size _ = 9

  pub stmts_size : Stmts → ℕ
  stmts_size no_stmts = 0
  stmts_size (more_stmts a as') = stmt_size a + stmts_size as' + 1

  pub part_size : MaybeStmt → ℕ
  part_size no_stmt = 0
  part_size (a_stmt a) = stmt_size a

  pub head_size : Head → ℕ
  head_size (head i e next) = part_size i + part_size next

abbrev pub top_size : Top → ℕ
top_size (function x ps a) = stmts_size a + 1
top_size (main a) = stmts_size a + 1
top_size _ = 1

abbrev pub tops_size : Program → ℕ
tops_size [] = 0
tops_size (t ∷ ts) = top_size t + tops_size ts
