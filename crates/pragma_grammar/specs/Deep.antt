-- Where a tree is too deep: at the first token of that subtree of a height above 256 which ends first. An inner subtree
-- ends before the one that it stands in, and the elements of a node in their order; so the subtree has height 257.
use Rattle.std.specs.Prelude.{ℕ, nat_le, cond, List, [], ◌∷◌, Option, Some, None}
use Rattle.c_tree.specs.Placed.{Expr, num, read, item, un, bin, cond as choice, cast, Exprs, no_exprs, more_exprs, Count, fill, given, Directive, directive, Clauses, no_clauses, more_clauses, Clause, clause, ClauseKind, sizes, permutation, counts, looprange, full, partial, apply, Items, no_items, more_items, Item, nothing, acts}
use Rattle.c_tree.specs.Height.{expr_height, directive_height}
use Rattle.c_tree.specs.Forget.{forget_expr, forget_directive}

-- the first of two places
abbrev pub first : Option ℕ → Option ℕ → Option ℕ
first None q = q
first (Some p) q = Some p

-- a node of this height that begins there
abbrev pub too_deep : ℕ → ℕ → Option ℕ
too_deep height start = cond (nat_le 257 height) (Some start) None

abbrev mutual
  pub deep_expr : Expr → Option ℕ
  deep_expr (num n ty s) = None
  deep_expr (read x s) = None
  deep_expr (item x es s) = first (deep_exprs es) (too_deep (expr_height (forget_expr (item x es s))) s.start)
  deep_expr (un o e s) = first (deep_expr e) (too_deep (expr_height (forget_expr (un o e s))) s.start)
  deep_expr (bin o e f s) = first (deep_expr e) (first (deep_expr f) (too_deep (expr_height (forget_expr (bin o e f s))) s.start))
  deep_expr (choice c e f s) = first (deep_expr c) (first (deep_expr e) (first (deep_expr f) (too_deep (expr_height (forget_expr (choice c e f s))) s.start)))
  deep_expr (cast ty e s) = first (deep_expr e) (too_deep (expr_height (forget_expr (cast ty e s))) s.start)

  pub deep_exprs : Exprs → Option ℕ
  deep_exprs no_exprs = None
  deep_exprs (more_exprs e es) = first (deep_expr e) (deep_exprs es)

abbrev pub deep_counts : List Count → Option ℕ
deep_counts [] = None
deep_counts (fill s ∷ cs) = deep_counts cs
deep_counts (given e ∷ cs) = first (deep_expr e) (deep_counts cs)

abbrev pub deep_option : Option Expr → Option ℕ
deep_option None = None
deep_option (Some e) = deep_expr e

abbrev mutual
  pub deep_directive : Directive → Option ℕ
  deep_directive (directive kind cs s) = first (deep_clauses cs) (too_deep (directive_height (forget_directive (directive kind cs s))) s.start)

  pub deep_clauses : Clauses → Option ℕ
  deep_clauses no_clauses = None
  deep_clauses (more_clauses c cs) = first (deep_clause c) (deep_clauses cs)

  pub deep_clause : Clause → Option ℕ
  deep_clause (clause kind s) = deep_kind kind

  pub deep_kind : ClauseKind → Option ℕ
  deep_kind (sizes es) = deep_exprs es
  deep_kind (permutation es) = deep_exprs es
  deep_kind (counts cs) = deep_counts cs
  deep_kind (looprange e f) = first (deep_expr e) (deep_expr f)
  deep_kind full = None
  deep_kind (partial factor) = deep_option factor
  deep_kind (apply m es is) = first (deep_exprs es) (deep_items is)

  pub deep_items : Items → Option ℕ
  deep_items no_items = None
  deep_items (more_items i is) = first (deep_item i) (deep_items is)

  pub deep_item : Item → Option ℕ
  deep_item (nothing s) = None
  deep_item (acts d) = deep_directive d
