-- A directive is too deep somewhere exactly where its height is above 256.
use Rattle.std.proofs.Common.{◌≡◌, ◌+◌, ◌≤◌, max, List, [], ◌∷◌, Option, Some, None, refl, arith}
use Rattle.std.specs.Prelude.{map}
use Rattle.c_tree.specs.Placed.{Expr, Count, fill, given, Directive, directive, Clauses, no_clauses, more_clauses, Clause, clause, ClauseKind, sizes, permutation, counts, looprange, full, partial, apply, Items, no_items, more_items, Item, nothing, acts}
use Rattle.c_tree.specs.Forget.{forget_expr, forget_exprs, forget_count, forget_directive, forget_clauses, forget_clause, forget_kind, forget_items, forget_item}
use Rattle.c_tree.specs.Height.{expr_height, exprs_height, counts_height, directive_height, clauses_height, clause_height, items_height, item_height}
use Rattle.pragma_grammar.specs.Deep.{deep_expr, deep_exprs, deep_counts, deep_directive, deep_clauses, deep_clause, deep_kind, deep_items, deep_item}
use Rattle.pragma_grammar.specs.Reading.{DirectiveDeepWhereAbove}
use Rattle.pragma_grammar.proofs.DirectiveKeeping.{bounded}
use Rattle.pragma_grammar.proofs.OneTree.{both_none, within, not_too_deep, none_too_deep}

counts_not_too_deep : (cs : List Count) → counts_height (map forget_count cs) ≤ 256 → deep_counts cs ≡ None
counts_not_too_deep [] l = refl
counts_not_too_deep (fill s ∷ cs) l = counts_not_too_deep cs l
counts_not_too_deep (given e ∷ cs) l =
    let z : max (expr_height (forget_expr e)) (counts_height (map forget_count cs)) ≤ 256 = l in
    both_none (deep_expr e) _ (not_too_deep e (omega arith)) (counts_not_too_deep cs (omega arith))

mutual
  pub directive_not_too_deep : (d : Directive) → directive_height (forget_directive d) ≤ 256 → deep_directive d ≡ None
  directive_not_too_deep (directive kind cs s) l =
      both_none (deep_clauses cs) _ (clauses_not_too_deep cs (let z : 1 + clauses_height (forget_clauses cs) ≤ 256 = l in omega arith)) (within _ s.start l)

  clauses_not_too_deep : (cs : Clauses) → clauses_height (forget_clauses cs) ≤ 256 → deep_clauses cs ≡ None
  clauses_not_too_deep no_clauses l = refl
  clauses_not_too_deep (more_clauses c cs) l =
      let z : max (clause_height (forget_clause c)) (clauses_height (forget_clauses cs)) ≤ 256 = l in
      both_none (deep_clause c) _ (clause_not_too_deep c (omega arith)) (clauses_not_too_deep cs (omega arith))

  clause_not_too_deep : (c : Clause) → clause_height (forget_clause c) ≤ 256 → deep_clause c ≡ None
  clause_not_too_deep (clause kind s) l = kind_not_too_deep kind l

  kind_not_too_deep : (kind : ClauseKind) → clause_height (forget_kind kind) ≤ 256 → deep_kind kind ≡ None
  kind_not_too_deep (sizes es) l = none_too_deep es l
  kind_not_too_deep (permutation es) l = none_too_deep es l
  kind_not_too_deep (counts cs) l = counts_not_too_deep cs l
  kind_not_too_deep (looprange e f) l =
      let z : max (expr_height (forget_expr e)) (expr_height (forget_expr f)) ≤ 256 = l in
      both_none (deep_expr e) _ (not_too_deep e (omega arith)) (not_too_deep f (omega arith))
  kind_not_too_deep full l = refl
  kind_not_too_deep (partial None) l = refl
  kind_not_too_deep (partial (Some e)) l = not_too_deep e l
  kind_not_too_deep (apply m es is) l =
      let z : max (exprs_height (forget_exprs es)) (items_height (forget_items is)) ≤ 256 = l in
      both_none (deep_exprs es) _ (none_too_deep es (omega arith)) (items_not_too_deep is (omega arith))

  items_not_too_deep : (is : Items) → items_height (forget_items is) ≤ 256 → deep_items is ≡ None
  items_not_too_deep no_items l = refl
  items_not_too_deep (more_items i is) l =
      let z : max (item_height (forget_item i)) (items_height (forget_items is)) ≤ 256 = l in
      both_none (deep_item i) _ (item_not_too_deep i (omega arith)) (items_not_too_deep is (omega arith))

  item_not_too_deep : (i : Item) → item_height (forget_item i) ≤ 256 → deep_item i ≡ None
  item_not_too_deep (nothing s) l = refl
  item_not_too_deep (acts d) l = directive_not_too_deep d l

pub directive_deep_where_above : (d : Directive) → DirectiveDeepWhereAbove d
directive_deep_where_above d = (bounded d, directive_not_too_deep d)
