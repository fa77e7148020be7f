-- What a reader keeps of a directive and of its parts: each with its height, or, where a subtree is too deep, the place
-- of the first that is.
use Rattle.std.specs.Prelude.{ℕ, ◌+◌, max, nat_le, cond, List, [], ◌∷◌, Option, Some, None, map}
use Rattle.c_tree.specs.Placed.{Expr, Exprs, no_exprs, Count, fill, given, Directive, directive, Clauses, no_clauses, ClauseKind, sizes, permutation, counts, looprange, full, partial, apply, Items, no_items, Item, nothing, acts}
use Rattle.c_tree.specs.Forget.{forget_expr, forget_exprs, forget_count, forget_directive, forget_clauses, forget_kind, forget_items, forget_item}
use Rattle.c_tree.specs.Height.{expr_height, exprs_height, counts_height, directive_height, clauses_height, clause_height, items_height, item_height}
use Rattle.c_tree.specs.declared.tree.Kind.{Kind}
use Rattle.c_tree.specs.declared.tree.Span.{Span}
use Rattle.pragma_grammar.specs.Trees.{join_last}
use Rattle.pragma_grammar.specs.Deep.{deep_expr, deep_exprs, deep_counts, deep_directive, deep_clauses, deep_kind, deep_items, deep_item}
use Rattle.pragma_grammar.specs.DirectiveMachine as machine
use Rattle.pragma_grammar.specs.DirectiveTrees.{add_clause, add_item, add_count}

pub data Kept (X : Type 0) : Type 0 where
  kept : ℕ → X → Kept X
  deep : ℕ → Kept X

abbrev pub one : {X Y : Type 0} → (X → Y) → Kept X → Kept Y
one f (kept h x) = kept h (f x)
one f (deep p) = deep p

-- of two parts, the first stands before the second
abbrev pub both : {X Y Z : Type 0} → (X → Y → Z) → Kept X → Kept Y → Kept Z
both f (kept g x) (kept h y) = kept (max g h) (f x y)
both f (kept g x) (deep p) = deep p
both f (deep p) y = deep p

-- what is kept of a node
abbrev pub node : ℕ → Directive → Span → Kept Directive
node height d s = cond (nat_le 257 height) (deep s.start) (kept height d)

abbrev pub keep_directive_of : Kind → Kept Clauses → Span → Kept Directive
keep_directive_of kind (kept h cs) s = node (1 + h) (directive kind cs s) s
keep_directive_of kind (deep p) s = deep p

abbrev pub add_kept : Kept Clauses → Kept ClauseKind → Span → Kept Clauses
add_kept cs kind s = both (λ x y. add_clause x y s) cs kind

abbrev pub keeps : machine.Algebra
keeps = record {
  Expr = Kept Expr;
  Exprs = Kept Exprs;
  Counts = Kept (List Count);
  Clauses = Kept Clauses;
  Items = Kept Items;
  Directive = Kept Directive;
  no_exprs = kept 0 no_exprs;
  add_expr = λ es e. both join_last es e;
  no_counts = kept 0 [];
  add_fill = λ cs s. both add_count cs (kept 0 (fill s));
  add_given = λ cs e. both add_count cs (one given e);
  no_clauses = kept 0 no_clauses;
  add_sizes = λ cs es s. add_kept cs (one sizes es) s;
  add_permutation = λ cs es s. add_kept cs (one permutation es) s;
  add_counts = λ cs ns s. add_kept cs (one counts ns) s;
  add_range = λ cs e f s. add_kept cs (both looprange e f) s;
  add_full = λ cs s. add_kept cs (kept 0 full) s;
  add_partial = λ cs s. add_kept cs (kept 0 (partial None)) s;
  add_factor = λ cs e s. add_kept cs (one (λ x. partial (Some x)) e) s;
  add_apply = λ cs m es is s. add_kept cs (both (λ x y. apply m x y) es is) s;
  no_items = kept 0 no_items;
  add_nothing = λ is s. both add_item is (kept 0 (nothing s));
  add_directive = λ is d. both add_item is (one acts d);
  directive = keep_directive_of;
}

-- what is kept of a tree
abbrev pub kept_or : {X : Type 0} → Option ℕ → ℕ → X → Kept X
kept_or None height x = kept height x
kept_or (Some p) height x = deep p

abbrev pub keep_expr : Expr → Kept Expr
keep_expr e = kept_or (deep_expr e) (expr_height (forget_expr e)) e

abbrev pub keep_exprs : Exprs → Kept Exprs
keep_exprs es = kept_or (deep_exprs es) (exprs_height (forget_exprs es)) es

abbrev pub keep_counts : List Count → Kept (List Count)
keep_counts cs = kept_or (deep_counts cs) (counts_height (map forget_count cs)) cs

abbrev pub keep_clauses : Clauses → Kept Clauses
keep_clauses cs = kept_or (deep_clauses cs) (clauses_height (forget_clauses cs)) cs

abbrev pub keep_kind : ClauseKind → Kept ClauseKind
keep_kind kind = kept_or (deep_kind kind) (clause_height (forget_kind kind)) kind

abbrev pub keep_items : Items → Kept Items
keep_items is = kept_or (deep_items is) (items_height (forget_items is)) is

abbrev pub keep_item : Item → Kept Item
keep_item i = kept_or (deep_item i) (item_height (forget_item i)) i

abbrev pub keep_directive : Directive → Kept Directive
keep_directive d = kept_or (deep_directive d) (directive_height (forget_directive d)) d
