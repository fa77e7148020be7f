-- How deeply calls nest: the depth of a function is 1 plus the greatest depth of those that it calls, and 1 where it
-- calls none. 16 stands for any greater depth.
use Rattle.std.specs.Prelude.{ℕ, ◌+◌, max, min, Option, Some}
use Rattle.c_tree.specs.Placed.{Stmt, call, if_, if_else, while_, do_, for_, block, omp, Stmts, no_stmts, more_stmts, MaybeStmt, no_stmt, a_stmt, Head, head}
use Rattle.c_tree.specs.declared.name_rule.Entity.{Entity}
use Rattle.c_tree.specs.declared.name_rule.Entity.TheVariants.{Function}
use Rattle.c_tree.specs.NameRules.Scopes.{Scope, meaning, inner, after_stmt, after_part, after_head}

abbrev pub depth_of : Option Entity → ℕ
depth_of (Some (Function params depth)) = depth
depth_of _ = 0

abbrev mutual
  -- the greatest depth of the functions that a statement calls, and 0 where it calls none
  pub deepest_call : Scope → Stmt → ℕ
  deepest_call s (call x at args span) = depth_of (meaning s x)
  deepest_call s (if_ e a span) = deepest_calls (inner s) a
  deepest_call s (if_else e a b span) = max (deepest_calls (inner s) a) (deepest_calls (inner s) b)
  deepest_call s (while_ e a span) = deepest_calls (inner s) a
  deepest_call s (do_ a e span) = deepest_calls (inner s) a
  deepest_call s (for_ h a span) = max (deepest_in_head s h) (deepest_calls (inner (after_head s h)) a)
  deepest_call s (block a span) = deepest_calls (inner s) a
  deepest_call s (omp d a span) = deepest_calls (inner s) a
  deepest_call s _ = 0

  -- of statements one after another in one scope
  pub deepest_calls : Scope → Stmts → ℕ
  deepest_calls s no_stmts = 0
  deepest_calls s (more_stmts a as') = max (deepest_call s a) (deepest_calls (after_stmt s a) as')

  pub deepest_part : Scope → MaybeStmt → ℕ
  deepest_part s no_stmt = 0
  deepest_part s (a_stmt a) = deepest_call s a

  pub deepest_in_head : Scope → Head → ℕ
  deepest_in_head s (head init init_at test test_at next next_at) =
      max (deepest_part (inner s) init) (deepest_part (after_part (inner s) init) next)

-- the depth of a function with this body, in the scope of its parameters
abbrev pub function_depth : Scope → Stmts → ℕ
function_depth s a = min (1 + deepest_calls s a) 16
