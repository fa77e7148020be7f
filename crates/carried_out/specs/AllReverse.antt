-- Programs in which every directive, and every item of `apply` but `nothing`, is `reverse`.
use Rattle.std.specs.Prelude.{[], ◌∷◌, Bool, true, false, ◌&&◌}
use Rattle.c_tree.specs.Bare.{Directive, directive, Clauses, no_clauses, more_clauses, apply, Items, no_items, more_items, Item, nothing, acts, Stmt, if_, if_else, while_, do_, for_, block, omp, Stmts, no_stmts, more_stmts, Top, function, main, Program}
use Rattle.c_tree.specs.declared.tree.Kind.TheVariants.{Reverse}

abbrev mutual
  pub is_reverse : Directive → Bool
  is_reverse (directive Reverse cs) = clauses_reverse cs
  is_reverse _ = false

  pub clauses_reverse : Clauses → Bool
  clauses_reverse no_clauses = true
  clauses_reverse (more_clauses (apply m es is) cs) = items_reverse is && clauses_reverse cs
  clauses_reverse (more_clauses _ cs) = clauses_reverse cs

  pub items_reverse : Items → Bool
  items_reverse no_items = true
  items_reverse (more_items i is) = item_reverses i && items_reverse is

  pub item_reverses : Item → Bool
  item_reverses nothing = true
  item_reverses (acts d) = is_reverse d

abbrev mutual
  pub reverses_only : Stmt → Bool
  reverses_only (if_ e a) = all_reverse_only a
  reverses_only (if_else e a b) = all_reverse_only a && all_reverse_only b
  reverses_only (while_ e a) = all_reverse_only a
  reverses_only (do_ a e) = all_reverse_only a
  reverses_only (for_ h a) = all_reverse_only a
  reverses_only (block a) = all_reverse_only a
  reverses_only (omp d a) = is_reverse d && all_reverse_only a
  reverses_only _ = true

  pub all_reverse_only : Stmts → Bool
  all_reverse_only no_stmts = true
  all_reverse_only (more_stmts a as') = reverses_only a && all_reverse_only as'

abbrev pub top_reverses_only : Top → Bool
top_reverses_only (function x ps a) = all_reverse_only a
top_reverses_only (main a) = all_reverse_only a
top_reverses_only _ = true

abbrev pub all_reverse : Program → Bool
all_reverse [] = true
all_reverse (i ∷ is) = top_reverses_only i && all_reverse is
