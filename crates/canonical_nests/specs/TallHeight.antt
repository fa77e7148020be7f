-- The tall height of a program: its height, where each directive and each item of `apply` makes the statement that
-- carries it higher by 12 and by the loops that it generates. The translated program is no higher. It is this profile's
-- own.
use Rattle.std.specs.Prelude.{ℕ, ◌+◌, ◌*◌, max, List, [], ◌∷◌, length, Option, Some, None, if◌then◌else◌}
use Rattle.c_tree.specs.Bare.{Directive, directive, Clauses, no_clauses, more_clauses, Clause, sizes, permutation, counts, looprange, full, partial, apply, Items, no_items, more_items, Item, nothing, acts, expr_list, Stmt, if_, if_else, while_, do_, for_, block, omp, Stmts, no_stmts, more_stmts, Top, function, main, Program}
use Rattle.c_tree.specs.Height.{expr_height, directive_height, stmt_height, head_height, top_height}
use Rattle.c_tree.specs.declared.tree.Kind.{Kind}
use Rattle.c_tree.specs.declared.tree.Kind.TheVariants.{Tile, Unroll, Interchange}
use Rattle.c_semantics.specs.Loops.Directives.{sizes_in, full_in}

-- ---- directives

-- without the clause 2
abbrev pub permutation_length : Clauses → ℕ
permutation_length no_clauses = 2
permutation_length (more_clauses (permutation es) cs) = length (expr_list es)
permutation_length (more_clauses _ cs) = permutation_length cs

-- how many sizes, or permutation items, a clause has, where it is of that kind
abbrev pub own_sizes : Clause → Option ℕ
own_sizes (sizes es) = Some (length (expr_list es))
own_sizes _ = None

abbrev pub own_permutation : Clause → Option ℕ
own_permutation (permutation es) = Some (length (expr_list es))
own_permutation _ = None

-- the loops that a directive generates
abbrev pub generated : Kind → Clauses → ℕ
generated Tile cs = 2 * length (sizes_in cs)
generated Interchange cs = permutation_length cs
generated Unroll cs = if full_in cs then 0 else 1
generated _ cs = 1

abbrev mutual
  -- 12 and the generated loops, of a directive and of all its items
  pub added_height : Directive → ℕ
  added_height (directive k cs) = 12 + generated k cs + clauses_added cs

  pub clauses_added : Clauses → ℕ
  clauses_added no_clauses = 0
  clauses_added (more_clauses c cs) = clause_added c + clauses_added cs

  pub clause_added : Clause → ℕ
  clause_added (sizes es) = 0
  clause_added (permutation es) = 0
  clause_added (counts cs) = 0
  clause_added (looprange first count) = 0
  clause_added full = 0
  clause_added (partial factor) = 0
  clause_added (apply m es is) = items_added is

  pub items_added : Items → ℕ
  items_added no_items = 0
  items_added (more_items i is) = item_added i + items_added is

  pub item_added : Item → ℕ
  item_added nothing = 0
  item_added (acts d) = added_height d

-- ---- statements

abbrev mutual
  pub tall_stmt : Stmt → ℕ
  tall_stmt (if_ e a) = 1 + max (expr_height e) (tall_stmts a)
  tall_stmt (if_else e a b) = 1 + max (expr_height e) (max (tall_stmts a) (tall_stmts b))
  tall_stmt (while_ e a) = 1 + max (expr_height e) (tall_stmts a)
  tall_stmt (do_ a e) = 1 + max (tall_stmts a) (expr_height e)
  tall_stmt (for_ h a) = 1 + max (head_height h) (tall_stmts a)
  tall_stmt (block a) = 1 + tall_stmts a
  tall_stmt (omp d a) = added_height d + (1 + max (directive_height d) (tall_stmts a))
  tall_stmt a = stmt_height a

  pub tall_stmts : Stmts → ℕ
  tall_stmts no_stmts = 0
  tall_stmts (more_stmts a as') = max (tall_stmt a) (tall_stmts as')

abbrev pub tall_top : Top → ℕ
tall_top (function x params a) = 1 + tall_stmts a
tall_top (main a) = 1 + tall_stmts a
tall_top top = top_height top

abbrev pub tall_height : Program → ℕ
tall_height [] = 0
tall_height (top ∷ tops) = max (tall_top top) (tall_height tops)
