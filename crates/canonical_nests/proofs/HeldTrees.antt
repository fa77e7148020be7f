-- In a well-formed tree each literal has a value that its type holds; and what a walk over statements has left.
use Rattle.std.proofs.Common.{◌≡◌, subst, ◌<◌, ◌+◌, ℕ, List, [], ◌∷◌, length, drop, slice_index_or, Option, Some, None}
use Rattle.c_tree.specs.Bare.{Expr, num, read, item, un, bin, cond, cast, Exprs, no_exprs, more_exprs, Count, fill, given, Directive, directive, Clauses, no_clauses, more_clauses, Clause, sizes, permutation, counts, looprange, full, partial, apply, Items, no_items, more_items, Item, nothing, acts}
use Rattle.c_tree.specs.BareOf.{bare_stmt, bare_stmts}
use Rattle.c_tree.specs.Constants.{LiteralsAreHeld, EachLiteralIsHeld}
use Rattle.c_tree.specs.WellFormed.{WellFormedExpr, WellFormedExprs, WellFormedOption, WellFormedCounts, WellFormedDirective, WellFormedClauses, WellFormedClause, WellFormedItems, WellFormedItem, WellFormedStmt, WellFormedStmts}
use Rattle.c_tree.specs.declared.tree.Stmt.{Stmt}
use Rattle.c_tree.proofs.Walks.{rest_more}
use Rattle.canonical_nests.specs.Held.{CountsAreHeld, OptionIsHeld, DirectiveIsHeld, ClausesAreHeld, ClauseIsHeld, ItemsAreHeld, ItemIsHeld}

mutual
  pub expr_held : (e : Expr) → WellFormedExpr e → LiteralsAreHeld e
  expr_held (num k t) h = h
  expr_held (read x) h = tt
  expr_held (item x es) h = each_held es h.2
  expr_held (un op a) h = expr_held a h
  expr_held (bin op a b) h = (expr_held a h.0, expr_held b h.1)
  expr_held (cond a b c) h = (expr_held a h.0, expr_held b h.1, expr_held c h.2)
  expr_held (cast t a) h = expr_held a h

  pub each_held : (es : Exprs) → WellFormedExprs es → EachLiteralIsHeld es
  each_held no_exprs h = tt
  each_held (more_exprs e es) h = (expr_held e h.0, each_held es h.1)

option_held : (e : Option Expr) → WellFormedOption e → OptionIsHeld e
option_held None h = tt
option_held (Some e) h = expr_held e h

counts_held : (cs : List Count) → WellFormedCounts cs → CountsAreHeld cs
counts_held [] h = tt
counts_held (fill ∷ cs) h = (tt, counts_held cs h)
counts_held (given e ∷ cs) h = (expr_held e h.0, counts_held cs h.1)

mutual
  pub directive_held : (d : Directive) → WellFormedDirective d → DirectiveIsHeld d
  directive_held (directive k cs) h = clauses_held cs h

  clauses_held : (cs : Clauses) → WellFormedClauses cs → ClausesAreHeld cs
  clauses_held no_clauses h = tt
  clauses_held (more_clauses c cs) h = (clause_held c h.0, clauses_held cs h.1)

  clause_held : (c : Clause) → WellFormedClause c → ClauseIsHeld c
  clause_held (sizes es) h = each_held es h.1
  clause_held (permutation es) h = each_held es h.1
  clause_held (counts cs) h = counts_held cs h.1
  clause_held (looprange a b) h = (expr_held a h.0, expr_held b h.1)
  clause_held full h = tt
  clause_held (partial e) h = option_held e h
  clause_held (apply m es is) h = (each_held es h.1, items_held is h.3)

  items_held : (is : Items) → WellFormedItems is → ItemsAreHeld is
  items_held no_items h = tt
  items_held (more_items i is) h = (item_held i h.0, items_held is h.1)

  item_held : (i : Item) → WellFormedItem i → ItemIsHeld i
  item_held nothing h = tt
  item_held (acts d) h = directive_held d h

abbrev Good : List Stmt → Type 0
Good xs = WellFormedStmts (bare_stmts xs)

pub good_more : (xs : List Stmt) (i : ℕ) (x : Stmt) → i < length xs → x ≡ slice_index_or xs i x → WellFormedStmts (bare_stmts (drop i xs))
    → WellFormedStmt (bare_stmt x) × WellFormedStmts (bare_stmts (drop (i + 1) xs))
good_more xs i x within is good = subst Good (rest_more (λ ys. ys) xs i x within is) good

pub ruleset held_trees = (directive_held, good_more)
