-- What is kept of a directive is built as the directive is; and a directive in which nothing is too deep has a height of
-- at most 256.
use Rattle.std.proofs.Common.{◌≡◌, ℕ, ◌+◌, ◌≤◌, max, Bool, true, false, List, [], ◌∷◌, Option, Some, None, refl, sym, ap, ◌∙◌, arith}
use Rattle.std.proofs.lemmas.Bool.{leb-false}
use Rattle.std.specs.Prelude.{nat_le, cond, map}
use Rattle.c_tree.specs.Bare.{Name}
use Rattle.c_tree.specs.Placed.{Expr, Exprs, no_exprs, more_exprs, Count, fill, given, Directive, directive, Clauses, no_clauses, more_clauses, clause, ClauseKind, sizes, permutation, counts, looprange, full, partial, apply, Items, no_items, more_items, Item, nothing, acts}
use Rattle.c_tree.specs.Forget.{forget_expr, forget_exprs, forget_count, forget_directive, forget_clauses, forget_clause, forget_kind, forget_items, forget_item}
use Rattle.c_tree.specs.Height.{expr_height, exprs_height, counts_height, directive_height, clauses_height, clause_height, items_height, item_height}
use Rattle.c_tree.specs.declared.tree.Kind.{Kind}
use Rattle.c_tree.specs.declared.tree.Span.{Span}
use Rattle.pragma_grammar.specs.Trees.{join_last}
use Rattle.pragma_grammar.specs.Deep.{first, too_deep, deep_expr, deep_exprs, deep_counts, deep_directive, deep_clauses, deep_clause, deep_kind, deep_items, deep_item}
use Rattle.pragma_grammar.specs.DirectiveTrees.{add_clause, add_item, add_count}
use Rattle.pragma_grammar.specs.DirectiveKept.{Kept, kept, deep, one, both, node, keep_directive_of, add_kept, kept_or, keep_expr, keep_exprs, keep_counts, keep_clauses, keep_kind, keep_items, keep_item, keep_directive}

one_kept : {X Y : Type 0} (f : X → Y) (d : Option ℕ) (h : ℕ) (x : X) → kept_or d h (f x) ≡ one f (kept_or d h x)
one_kept f None h x = refl
one_kept f (Some p) h x = refl

both_kept : {X Y Z : Type 0} (f : X → Y → Z) (c d : Option ℕ) (g h : ℕ) (x : X) (y : Y) → kept_or (first c d) (max g h) (f x y) ≡ both f (kept_or c g x) (kept_or d h y)
both_kept f None None g h x y = refl
both_kept f None (Some p) g h x y = refl
both_kept f (Some p) d g h x y = refl

-- the same by what a list with one more has
list_kept : {X Y : Type 0} (f : X → Y → X) (b c d : Option ℕ) (i g h : ℕ) (x : X) (y : Y) → b ≡ first c d → i ≡ max g h → kept_or b i (f x y) ≡ both f (kept_or c g x) (kept_or d h y)
list_kept f b c d i g h x y p q = ap (λ z. kept_or z i (f x y)) p ∙ ap (λ z. kept_or (first c d) z (f x y)) q ∙ both_kept f c d g h x y

first_first : (a b c : Option ℕ) → first a (first b c) ≡ first (first a b) c
first_first None b c = refl
first_first (Some p) b c = refl

first_none : (a : Option ℕ) → first a None ≡ a
first_none None = refl
first_none (Some p) = refl

-- ---- expressions

deep_exprs_more : (es : Exprs) (e : Expr) → deep_exprs (join_last es e) ≡ first (deep_exprs es) (deep_expr e)
deep_exprs_more no_exprs e = first_none (deep_expr e)
deep_exprs_more (more_exprs f es) e = ap (first (deep_expr f)) (deep_exprs_more es e) ∙ first_first (deep_expr f) (deep_exprs es) (deep_expr e)

exprs_higher : (es : Exprs) (e : Expr) → exprs_height (forget_exprs (join_last es e)) ≡ max (exprs_height (forget_exprs es)) (expr_height (forget_expr e))
exprs_higher no_exprs e = omega arith
exprs_higher (more_exprs f es) e = let h = exprs_higher es e in omega arith

pub keep_add_expr : (es : Exprs) (e : Expr) → keep_exprs (join_last es e) ≡ both join_last (keep_exprs es) (keep_expr e)
keep_add_expr es e = list_kept join_last (deep_exprs (join_last es e)) (deep_exprs es) (deep_expr e) (exprs_height (forget_exprs (join_last es e))) (exprs_height (forget_exprs es)) (expr_height (forget_expr e)) es e (deep_exprs_more es e) (exprs_higher es e)

-- ---- counts

abbrev deep_count : Count → Option ℕ
deep_count (fill s) = None
deep_count (given e) = deep_expr e

abbrev count_height : Count → ℕ
count_height (fill s) = 0
count_height (given e) = expr_height (forget_expr e)

deep_counts_more : (cs : List Count) (c : Count) → deep_counts (add_count cs c) ≡ first (deep_counts cs) (deep_count c)
deep_counts_more [] (fill s) = refl
deep_counts_more [] (given e) = first_none (deep_expr e)
deep_counts_more (fill s ∷ cs) c = deep_counts_more cs c
deep_counts_more (given f ∷ cs) c = ap (first (deep_expr f)) (deep_counts_more cs c) ∙ first_first (deep_expr f) (deep_counts cs) (deep_count c)

counts_higher : (cs : List Count) (c : Count) → counts_height (map forget_count (add_count cs c)) ≡ max (counts_height (map forget_count cs)) (count_height c)
counts_higher [] (fill s) = omega arith
counts_higher [] (given e) = omega arith
counts_higher (fill s ∷ cs) c = counts_higher cs c
counts_higher (given f ∷ cs) c = let h = counts_higher cs c in omega arith

keep_add_count : (cs : List Count) (c : Count) → keep_counts (add_count cs c) ≡ both add_count (keep_counts cs) (kept_or (deep_count c) (count_height c) c)
keep_add_count cs c = list_kept add_count (deep_counts (add_count cs c)) (deep_counts cs) (deep_count c) (counts_height (map forget_count (add_count cs c))) (counts_height (map forget_count cs)) (count_height c) cs c (deep_counts_more cs c) (counts_higher cs c)

pub keep_add_fill : (cs : List Count) (s : Span) → keep_counts (add_count cs (fill s)) ≡ both add_count (keep_counts cs) (kept 0 (fill s))
keep_add_fill cs s = keep_add_count cs (fill s)

pub keep_add_given : (cs : List Count) (e : Expr) → keep_counts (add_count cs (given e)) ≡ both add_count (keep_counts cs) (one given (keep_expr e))
keep_add_given cs e = keep_add_count cs (given e) ∙ ap (both add_count (keep_counts cs)) (one_kept given (deep_expr e) (expr_height (forget_expr e)) e)

-- ---- items

deep_items_more : (is : Items) (i : Item) → deep_items (add_item is i) ≡ first (deep_items is) (deep_item i)
deep_items_more no_items i = first_none (deep_item i)
deep_items_more (more_items j is) i = ap (first (deep_item j)) (deep_items_more is i) ∙ first_first (deep_item j) (deep_items is) (deep_item i)

items_higher : (is : Items) (i : Item) → items_height (forget_items (add_item is i)) ≡ max (items_height (forget_items is)) (item_height (forget_item i))
items_higher no_items i = omega arith
items_higher (more_items j is) i = let h = items_higher is i in omega arith

keep_add_item : (is : Items) (i : Item) → keep_items (add_item is i) ≡ both add_item (keep_items is) (keep_item i)
keep_add_item is i = list_kept add_item (deep_items (add_item is i)) (deep_items is) (deep_item i) (items_height (forget_items (add_item is i))) (items_height (forget_items is)) (item_height (forget_item i)) is i (deep_items_more is i) (items_higher is i)

pub keep_add_nothing : (is : Items) (s : Span) → keep_items (add_item is (nothing s)) ≡ both add_item (keep_items is) (kept 0 (nothing s))
keep_add_nothing is s = keep_add_item is (nothing s)

pub keep_add_directive : (is : Items) (d : Directive) → keep_items (add_item is (acts d)) ≡ both add_item (keep_items is) (one acts (keep_directive d))
keep_add_directive is d = keep_add_item is (acts d) ∙ ap (both add_item (keep_items is)) (one_kept acts (deep_directive d) (directive_height (forget_directive d)) d)

-- ---- clauses

deep_clauses_more : (cs : Clauses) (kind : ClauseKind) (s : Span) → deep_clauses (add_clause cs kind s) ≡ first (deep_clauses cs) (deep_kind kind)
deep_clauses_more no_clauses kind s = first_none (deep_kind kind)
deep_clauses_more (more_clauses c cs) kind s = ap (first (deep_clause c)) (deep_clauses_more cs kind s) ∙ first_first (deep_clause c) (deep_clauses cs) (deep_kind kind)

clauses_higher : (cs : Clauses) (kind : ClauseKind) (s : Span) → clauses_height (forget_clauses (add_clause cs kind s)) ≡ max (clauses_height (forget_clauses cs)) (clause_height (forget_kind kind))
clauses_higher no_clauses kind s = omega arith
clauses_higher (more_clauses c cs) kind s = let h = clauses_higher cs kind s in omega arith

keep_add_clause : (cs : Clauses) (kind : ClauseKind) (s : Span) (k : Kept ClauseKind) → keep_kind kind ≡ k → keep_clauses (add_clause cs kind s) ≡ add_kept (keep_clauses cs) k s
keep_add_clause cs kind s k q =
    list_kept (λ x y. add_clause x y s) (deep_clauses (add_clause cs kind s)) (deep_clauses cs) (deep_kind kind) (clauses_height (forget_clauses (add_clause cs kind s))) (clauses_height (forget_clauses cs)) (clause_height (forget_kind kind)) cs kind (deep_clauses_more cs kind s) (clauses_higher cs kind s)
    ∙ ap (λ z. add_kept (keep_clauses cs) z s) q

pub keep_add_sizes : (cs : Clauses) (es : Exprs) (s : Span) → keep_clauses (add_clause cs (sizes es) s) ≡ add_kept (keep_clauses cs) (one sizes (keep_exprs es)) s
keep_add_sizes cs es s = keep_add_clause cs (sizes es) s (one sizes (keep_exprs es)) (one_kept sizes (deep_exprs es) (exprs_height (forget_exprs es)) es)

pub keep_add_permutation : (cs : Clauses) (es : Exprs) (s : Span) → keep_clauses (add_clause cs (permutation es) s) ≡ add_kept (keep_clauses cs) (one permutation (keep_exprs es)) s
keep_add_permutation cs es s = keep_add_clause cs (permutation es) s (one permutation (keep_exprs es)) (one_kept permutation (deep_exprs es) (exprs_height (forget_exprs es)) es)

pub keep_add_counts : (cs : Clauses) (ns : List Count) (s : Span) → keep_clauses (add_clause cs (counts ns) s) ≡ add_kept (keep_clauses cs) (one counts (keep_counts ns)) s
keep_add_counts cs ns s = keep_add_clause cs (counts ns) s (one counts (keep_counts ns)) (one_kept counts (deep_counts ns) (counts_height (map forget_count ns)) ns)

pub keep_add_range : (cs : Clauses) (e f : Expr) (s : Span) → keep_clauses (add_clause cs (looprange e f) s) ≡ add_kept (keep_clauses cs) (both looprange (keep_expr e) (keep_expr f)) s
keep_add_range cs e f s = keep_add_clause cs (looprange e f) s (both looprange (keep_expr e) (keep_expr f)) (both_kept looprange (deep_expr e) (deep_expr f) (expr_height (forget_expr e)) (expr_height (forget_expr f)) e f)

pub keep_add_full : (cs : Clauses) (s : Span) → keep_clauses (add_clause cs full s) ≡ add_kept (keep_clauses cs) (kept 0 full) s
keep_add_full cs s = keep_add_clause cs full s (kept 0 full) refl

pub keep_add_partial : (cs : Clauses) (s : Span) → keep_clauses (add_clause cs (partial None) s) ≡ add_kept (keep_clauses cs) (kept 0 (partial None)) s
keep_add_partial cs s = keep_add_clause cs (partial None) s (kept 0 (partial None)) refl

pub keep_add_factor : (cs : Clauses) (e : Expr) (s : Span) → keep_clauses (add_clause cs (partial (Some e)) s) ≡ add_kept (keep_clauses cs) (one (λ x. partial (Some x)) (keep_expr e)) s
keep_add_factor cs e s = keep_add_clause cs (partial (Some e)) s (one (λ x. partial (Some x)) (keep_expr e)) (one_kept (λ x. partial (Some x)) (deep_expr e) (expr_height (forget_expr e)) e)

pub keep_add_apply : (cs : Clauses) (m : Option Name) (es : Exprs) (is : Items) (s : Span) → keep_clauses (add_clause cs (apply m es is) s) ≡ add_kept (keep_clauses cs) (both (λ x y. apply m x y) (keep_exprs es) (keep_items is)) s
keep_add_apply cs m es is s = keep_add_clause cs (apply m es is) s (both (λ x y. apply m x y) (keep_exprs es) (keep_items is)) (both_kept (λ x y. apply m x y) (deep_exprs es) (deep_items is) (exprs_height (forget_exprs es)) (items_height (forget_items is)) es is)

-- ---- directives

node_kept : (b : Bool) (h start : ℕ) (d : Directive) → kept_or (cond b (Some start) None) h d ≡ cond b (deep start) (kept h d)
node_kept true h start d = refl
node_kept false h start d = refl

directive_kept : (d : Option ℕ) (h : ℕ) (kind : Kind) (cs : Clauses) (s : Span) → kept_or (first d (too_deep (1 + h) s.start)) (1 + h) (directive kind cs s) ≡ keep_directive_of kind (kept_or d h cs) s
directive_kept None h kind cs s = node_kept (nat_le 257 (1 + h)) (1 + h) s.start (directive kind cs s)
directive_kept (Some p) h kind cs s = refl

pub keep_made : (kind : Kind) (cs : Clauses) (s : Span) → keep_directive (directive kind cs s) ≡ keep_directive_of kind (keep_clauses cs) s
keep_made kind cs s = directive_kept (deep_clauses cs) (clauses_height (forget_clauses cs)) kind cs s

-- ---- what was kept

last_none : (a b : Option ℕ) → first a b ≡ None → b ≡ None
last_none None b q = q
last_none (Some p) b q = absurd (let z : Some p ≡ None = q in cc)

not_deep_by : (b : Bool) (h start : ℕ) → nat_le 257 h ≡ b → cond b (Some start) None ≡ None → h ≤ 256
not_deep_by true h start q r = absurd (let z : Some start ≡ None = r in cc)
not_deep_by false h start q r = let z = leb-false 257 h q in omega arith

pub bounded : (d : Directive) → deep_directive d ≡ None → directive_height (forget_directive d) ≤ 256
bounded (directive kind cs s) q = not_deep_by (nat_le 257 (directive_height (forget_directive (directive kind cs s)))) (directive_height (forget_directive (directive kind cs s))) s.start refl (last_none (deep_clauses cs) _ q)

pub record KeptWhole {X : Type 0} (d : Option ℕ) (h : ℕ) (x : X) (g : ℕ) (y : X) : Type 0 where
  pub none : d ≡ None
  pub height : h ≡ g
  pub tree : x ≡ y

pub kept_whole : {X : Type 0} (d : Option ℕ) (h : ℕ) (x : X) (g : ℕ) (y : X) → kept_or d h x ≡ kept g y → KeptWhole d h x g y
kept_whole None h x g y q = record { none = refl; height = (let z : kept h x ≡ kept g y = q in cc); tree = (let z : kept h x ≡ kept g y = q in cc) }
kept_whole {X = X} (Some p) h x g y q = absurd (is_deep X p g y q)
  where
    is_deep : (X : Type 0) (p g : ℕ) (y : X) → deep p ≡ kept g y → ⊥
    is_deep X p g y q = cc

abbrev deep_at : (X : Type 0) → ℕ → Kept X
deep_at X p = deep p

pub kept_deep : {X : Type 0} (d : Option ℕ) (h : ℕ) (x : X) (p : ℕ) → kept_or d h x ≡ deep p → d ≡ Some p
kept_deep {X = X} None h x p q = absurd (is_whole X h x p q)
  where
    is_whole : (X : Type 0) (h : ℕ) (x : X) (p : ℕ) → kept h x ≡ deep p → ⊥
    is_whole X h x p q = cc
kept_deep {X = X} (Some r) h x p q = ap Some (same X r p q)
  where
    same : (X : Type 0) (r p : ℕ) → deep_at X r ≡ deep_at X p → r ≡ p
    same X r p q = cc
