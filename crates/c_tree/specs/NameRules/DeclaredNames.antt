-- The names that have been declared or defined before a place, in any scope, each once.
use Rattle.std.specs.Prelude.{List, [], ◌∷◌, Bool, if◌then◌else◌, bytes_eq}
use Rattle.std.specs.List.{list_any}
use Rattle.c_tree.specs.Bare.{Name}
use Rattle.c_tree.specs.Placed.{Param, Stmt, decl, if_, if_else, while_, do_, for_, block, omp, Stmts, no_stmts, more_stmts, MaybeStmt, no_stmt, a_stmt, Head, head}

abbrev pub is_among : Name → List Name → Bool
is_among x ns = list_any (bytes_eq x) ns

abbrev pub with_name : Name → List Name → List Name
with_name x [] = x ∷ []
with_name x (y ∷ ys) = if bytes_eq x y then y ∷ ys else y ∷ with_name x ys

abbrev mutual
  -- these names, and those that a statement declares
  pub with_stmt : List Name → Stmt → List Name
  with_stmt ns (decl t x at init s) = with_name x ns
  with_stmt ns (if_ e a s) = with_stmts ns a
  with_stmt ns (if_else e a b s) = with_stmts (with_stmts ns a) b
  with_stmt ns (while_ e a s) = with_stmts ns a
  with_stmt ns (do_ a e s) = with_stmts ns a
  with_stmt ns (for_ h a s) = with_stmts (with_head ns h) a
  with_stmt ns (block a s) = with_stmts ns a
  with_stmt ns (omp d a s) = with_stmts ns a
  with_stmt ns _ = ns

  pub with_stmts : List Name → Stmts → List Name
  with_stmts ns no_stmts = ns
  with_stmts ns (more_stmts a as') = with_stmts (with_stmt ns a) as'

  pub with_part : List Name → MaybeStmt → List Name
  with_part ns no_stmt = ns
  with_part ns (a_stmt a) = with_stmt ns a

  pub with_head : List Name → Head → List Name
  with_head ns (head init init_at test test_at next next_at) = with_part (with_part ns init) next

abbrev pub with_params : List Name → List Param → List Name
with_params ns [] = ns
with_params ns (p ∷ ps) = with_params (with_name p.name ns) ps
