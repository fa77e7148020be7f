-- What a loop that puts items has left.
use Rattle.std.proofs.Common.{◌≡◌, ◌∙◌, sym, ap, subst, ◌<◌, ◌≤◌, ◌+◌, ℕ, List, [], ◌∷◌, map, length, drop, slice_index_or, Option}
use Rattle.c_tree.specs.Bare.{Name}
use Rattle.c_tree.specs.BareOf.{bare_kind, bare_clauses, bare_item, bare_items}
use Rattle.c_tree.specs.Placed as p
use Rattle.c_tree.specs.Placed.{expr_list, more_clauses, apply}
use Rattle.c_tree.specs.PlacedOf.{item_layer, kind_layer, clause_layer, directive_layer, placed_exprs, placed_kind, placed_clauses, placed_item, placed_items}
use Rattle.c_tree.specs.Forget.{forget_expr}
use Rattle.c_tree.specs.declared.tree.Expr.{Expr}
use Rattle.c_tree.specs.declared.tree.ClauseKind.{ClauseKind, fold-roll-ClauseKind}
use Rattle.c_tree.specs.declared.tree.ClauseKind.TheVariants as v
use Rattle.c_tree.specs.declared.tree.ApplyItem.TheOpen as o
use Rattle.c_tree.specs.declared.tree.Clause.{Clause, out-Clause}
use Rattle.c_tree.specs.declared.tree.ApplyItem.{ApplyItem}
use Rattle.c_tree.proofs.Walks.{rest_more, rest_none}
use Rattle.c_semantics.specs.Meaning.Expressions.{Define}
use Rattle.c_semantics.specs.Loops.Directives.{number, before, first_place, later_places}
use Rattle.canonical_nests.specs.Held.{ClauseIsHeld, ClausesAreHeld, ItemIsHeld, ItemsAreHeld}
use Rattle.canonical_nests.specs.LoopRules.PlacedPlans.{PlacedItems, clauses_items, clause_items, put_items, put_item}
use Rattle.canonical_nests.proofs.ClauseFields.{placed_clause_out, bare_clause_out}

module _ (ds : List Define) where
  pub clauses_more : (n : ℕ) (w : PlacedItems) (xs : List Clause) (i : ℕ) (x : Clause) → i < length xs → x ≡ slice_index_or xs i x
      → clauses_items ds n (placed_clauses (drop i xs)) w ≡ clauses_items ds n (placed_clauses (drop (i + 1) xs)) (clause_items ds n (placed_kind (out-Clause x).kind) w)
  clauses_more n w xs i x within is =
      rest_more (λ ys. clauses_items ds n (placed_clauses ys) w) xs i x within is
      ∙ ap (λ c. clauses_items ds n (more_clauses c (placed_clauses (drop (i + 1) xs))) w) (placed_clause_out x)

  pub clauses_end : (n : ℕ) (w : PlacedItems) (xs : List Clause) (i : ℕ) → length xs ≤ i → clauses_items ds n (placed_clauses (drop i xs)) w ≡ w
  clauses_end n w xs i = rest_none (λ ys. clauses_items ds n (placed_clauses ys) w) xs i

  pub items_more : (ps : List ℕ) (k : ℕ) (w : PlacedItems) (xs : List ApplyItem) (i : ℕ) (x : ApplyItem) → i < length xs → x ≡ slice_index_or xs i x
      → put_items ds ps k (placed_items (drop i xs)) w ≡ put_items ds (later_places ps) (k + 1) (placed_items (drop (i + 1) xs)) (put_item ds (first_place ps k) (placed_item x) w)
  items_more ps k w xs i = rest_more (λ ys. put_items ds ps k (placed_items ys) w) xs i

  pub items_end : (ps : List ℕ) (k : ℕ) (w : PlacedItems) (xs : List ApplyItem) (i : ℕ) → length xs ≤ i → put_items ds ps k (placed_items (drop i xs)) w ≡ w
  items_end ps k w xs i = rest_none (λ ys. put_items ds ps k (placed_items ys) w) xs i

-- ---- the clause `apply`

placed_apply : (x : ClauseKind) (m : Option Name) (es : List Expr) (is : List ApplyItem) → x ≡ v.Apply m es is → placed_kind x ≡ apply m (placed_exprs es) (placed_items is)
placed_apply x m es is e =
    ap placed_kind e
    ∙ (ap placed_kind (sym (v.rolls-Apply m es is))
    ∙ fold-roll-ClauseKind p.Item p.ClauseKind p.Clause p.Directive item_layer kind_layer clause_layer directive_layer (o.ClauseKind::Apply m es is))

pub put_apply : (ds : List Define) (n : ℕ) (w : PlacedItems) (x : ClauseKind) (m : Option Name) (es es' : List Expr) (is is' : List ApplyItem) (b next : ℕ) (places ps : List ℕ)
    → x ≡ v.Apply m es is → es' ≡ es → is' ≡ is → places ≡ map (λ e. before n m + number ds (forget_expr e)) (expr_list (placed_exprs es')) → ps ≡ places
    → b ≡ before n m → next ≡ b + 1 → put_items ds ps next (placed_items is') w ≡ clause_items ds n (placed_kind x) w
put_apply ds n w x m es es' is is' b next places ps x_is es_are is_are places_are ps_are b_is next_is =
    (λ i. put_items ds (ps_are i) (next_is i) (placed_items (is_are i)) w)
    ∙ ((λ i. put_items ds (places_are i) (b_is i + 1) (placed_items is) w)
    ∙ (ap (λ fs. put_items ds (map (λ e. before n m + number ds (forget_expr e)) (expr_list (placed_exprs fs))) (before n m + 1) (placed_items is) w) es_are
    ∙ sym (ap (λ c. clause_items ds n c w) (placed_apply x m es is x_is))))

abbrev Held : List Clause → Type 0
Held xs = ClausesAreHeld (bare_clauses xs)

abbrev HeldItems : List ApplyItem → Type 0
HeldItems xs = ItemsAreHeld (bare_items xs)

pub kinds_held : (xs : List Clause) (i : ℕ) (x : Clause) → i < length xs → x ≡ slice_index_or xs i x → ClausesAreHeld (bare_clauses (drop i xs))
    → ClauseIsHeld (bare_kind (out-Clause x).kind) × ClausesAreHeld (bare_clauses (drop (i + 1) xs))
kinds_held xs i x within is held =
    let both : Held (x ∷ drop (i + 1) xs) = subst Held (rest_more (λ ys. ys) xs i x within is) held in
    (subst ClauseIsHeld (bare_clause_out x) both.0, both.1)

pub items_held : (xs : List ApplyItem) (i : ℕ) (x : ApplyItem) → i < length xs → x ≡ slice_index_or xs i x → ItemsAreHeld (bare_items (drop i xs))
    → ItemIsHeld (bare_item x) × ItemsAreHeld (bare_items (drop (i + 1) xs))
items_held xs i x within is held = subst HeldItems (rest_more (λ ys. ys) xs i x within is) held

pub ruleset put_clauses = (clauses_more, clauses_end, kinds_held)

pub ruleset put_each = (items_more, items_end, items_held)
