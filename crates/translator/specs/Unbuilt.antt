-- The first directive or item of `apply` that isn't carried out yet, which is each but `reverse`. It counts by its name, a
-- directive before its items and these before its body. The item `nothing` doesn't count.
use Rattle.std.specs.Prelude.{ℕ, [], ◌∷◌, Option, Some, None}
use Rattle.std.specs.Option.{option_or}
use Rattle.c_tree.specs.Placed.{Directive, directive, Clauses, no_clauses, more_clauses, Clause, clause, apply, Items, no_items, more_items, Item, nothing, acts, Stmt, if_, if_else, while_, do_, for_, block, omp, Stmts, no_stmts, more_stmts, Top, function, main, Program}
use Rattle.c_tree.specs.declared.tree.Kind.TheVariants.{Reverse}

abbrev mutual
  pub directive_unbuilt : Directive → Option ℕ
  directive_unbuilt (directive Reverse cs at) = clauses_unbuilt cs
  directive_unbuilt (directive kind cs at) = Some at.start

  pub clauses_unbuilt : Clauses → Option ℕ
  clauses_unbuilt no_clauses = None
  clauses_unbuilt (more_clauses c cs) = option_or (clause_unbuilt c) (clauses_unbuilt cs)

  pub clause_unbuilt : Clause → Option ℕ
  clause_unbuilt (clause (apply modifier indices is) at) = items_unbuilt is
  clause_unbuilt (clause kind at) = None

  pub items_unbuilt : Items → Option ℕ
  items_unbuilt no_items = None
  items_unbuilt (more_items i is) = option_or (item_unbuilt i) (items_unbuilt is)

  pub item_unbuilt : Item → Option ℕ
  item_unbuilt (nothing at) = None
  item_unbuilt (acts d) = directive_unbuilt d

abbrev mutual
  pub stmt_unbuilt : Stmt → Option ℕ
  stmt_unbuilt (if_ e a s) = stmts_unbuilt a
  stmt_unbuilt (if_else e a b s) = option_or (stmts_unbuilt a) (stmts_unbuilt b)
  stmt_unbuilt (while_ e a s) = stmts_unbuilt a
  stmt_unbuilt (do_ a e s) = stmts_unbuilt a
  stmt_unbuilt (for_ h a s) = stmts_unbuilt a
  stmt_unbuilt (block a s) = stmts_unbuilt a
  stmt_unbuilt (omp d a s) = option_or (directive_unbuilt d) (stmts_unbuilt a)
  stmt_unbuilt _ = None

  pub stmts_unbuilt : Stmts → Option ℕ
  stmts_unbuilt no_stmts = None
  stmts_unbuilt (more_stmts a as') = option_or (stmt_unbuilt a) (stmts_unbuilt as')

abbrev pub top_unbuilt : Top → Option ℕ
top_unbuilt (function x at ps a s) = stmts_unbuilt a
top_unbuilt (main a s) = stmts_unbuilt a
top_unbuilt _ = None

abbrev pub first_unbuilt : Program → Option ℕ
first_unbuilt [] = None
first_unbuilt (top ∷ tops) = option_or (top_unbuilt top) (first_unbuilt tops)
