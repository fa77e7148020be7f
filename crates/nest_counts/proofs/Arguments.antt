-- The rules of clauses say that the arguments of a directive and of its items fit.
use Rattle.std.proofs.Common.{◌≡◌, refl, sym, ap, subst, ℕ, zero, suc, ◌+◌, ◌<◌, ◌≤◌, List, [], ◌∷◌, map, length, Option, Some, None, Bool, true, false, ℤ, pos, negsuc, nat_abs, get_or, arith}
use Rattle.std.specs.Prelude.{◌&&◌, not, ◌==◌, nat_le, nat_lt, unwrap_or, if◌then◌else◌}
use Rattle.std.specs.List.{list_any}
use Rattle.std.proofs.lemmas.Bool.{leb-true, eqb-true, and_parts, or_parts}
use Rattle.c_tree.specs.Bare as b
use Rattle.c_tree.specs.Placed.{expr_list, Count, Exprs, no_exprs, more_exprs, Directive, directive, Clauses, no_clauses, more_clauses, clause, ClauseKind, sizes, permutation, counts, looprange, full, partial, apply, Items, no_items, more_items, nothing, acts}
use Rattle.c_tree.specs.Forget.{forget_expr, forget_exprs, forget_count, forget_clauses, forget_kind, forget_items, forget_directive}
use Rattle.c_tree.specs.declared.tree.Kind.{Kind}
use Rattle.c_tree.specs.declared.tree.Kind.TheVariants.{Tile, Unroll, Interchange, Reverse, Split, Fuse}
use Rattle.c_semantics.specs.Meaning.Expressions.{Define, constant}
use Rattle.c_semantics.specs.Loops.Transformations.{Plan, plan, Applied, none_applied, applied_at, unroll_full, unroll_partial}
use Rattle.c_semantics.specs.Loops.Directives.{number, sizes_in, permutation_in, counts_in, full_in, factor_in, count_of, transformation_of, insert, before, first_place, later_places, plan_of, clauses_items, clause_items, put_items}
use Rattle.canonical_nests.specs.declared.rules.LoopRule.TheVariants.{L10, L11, L14, L17, L23}
use Rattle.canonical_nests.specs.LoopRules.BreachSets.{HasNone}
use Rattle.canonical_nests.specs.LoopRules.Clauses.{is_from, is_constant_from, numbers, all_different, are_from_one_to, size_breaches, fills, has_kind, is_counts, required_breaches, is_permutation_of, is_fuse, item_list, fits_modifier, modifier_is_wrong, also_taken, loops_of_kind, directive_breaches, clauses_breaches, clause_breaches, items_breaches}
use Rattle.nest_counts.specs.Plans.{AllPositive, IsOrder}
use Rattle.nest_counts.specs.Found.{ArgumentFits, ArgumentsFit, ItemsFit, IsNoFuse}
use Rattle.nest_counts.specs.Laws.{ArgumentsOfRulesFit}
use Rattle.nest_counts.proofs.Orders.{permutations_are_orders}
use Rattle.canonical_nests.proofs.BreachSets.{none_if, none_unless}

-- ---- numbers

positive : (o : Option ℤ) → is_from 1 o ≡ true → 0 < nat_abs (unwrap_or o (pos 0))
positive None h = absurd (cc)
positive (Some (pos n)) h = let l : 1 ≤ n = leb-true 1 n h in omega arith
positive (Some (negsuc n)) h = absurd (cc)

module _ (ds : List Define) where
  numbers_are : (es : Exprs) → map (number ds) (b.expr_list (forget_exprs es)) ≡ numbers ds es
  numbers_are no_exprs = refl
  numbers_are (more_exprs e es) = ap (λ ns. number ds (forget_expr e) ∷ ns) (numbers_are es)

  sizes_positive : (es : Exprs) → HasNone (size_breaches ds (expr_list es)) → AllPositive (map (number ds) (b.expr_list (forget_exprs es)))
  sizes_positive no_exprs h = tt
  sizes_positive (more_exprs e es) h = (positive (constant ds (forget_expr e)) (none_unless (is_constant_from ds 1 e) L10 _ h.0), sizes_positive es h.1)

  within : (n : ℕ) (es : Exprs) → are_from_one_to ds n es ≡ true → (j : ℕ) → j < length (numbers ds es) → (0 < get_or (numbers ds es) j 0) × (get_or (numbers ds es) j 0 ≤ n)
  within n no_exprs h j l = absurd (omega arith)
  within n (more_exprs e es) h zero l =
      let q = and_parts (is_constant_from ds 1 e) (nat_le (number ds (forget_expr e)) n) (and_parts (is_constant_from ds 1 e && nat_le (number ds (forget_expr e)) n) (are_from_one_to ds n es) h).0 in
      (positive (constant ds (forget_expr e)) q.0, leb-true (number ds (forget_expr e)) n q.1)
  within n (more_exprs e es) h (suc j) l =
      within n es (and_parts (is_constant_from ds 1 e && nat_le (number ds (forget_expr e)) n) (are_from_one_to ds n es) h).1 j (omega arith)

  length_numbers : (es : Exprs) → length (numbers ds es) ≡ length (expr_list es)
  length_numbers no_exprs = refl
  length_numbers (more_exprs e es) = ap (λ n. suc n) (length_numbers es)

  permutation_is_order : (es : Exprs) → is_permutation_of ds es ≡ true → IsOrder (numbers ds es)
  permutation_is_order es h =
      let n : ℕ = length (expr_list es) in
      let q = and_parts (are_from_one_to ds n es) (all_different (numbers ds es) && nat_le 2 n) h in
      let r = and_parts (all_different (numbers ds es)) (nat_le 2 n) q.1 in
      let two : 2 ≤ n = leb-true 2 n r.1 in
      let same : length (numbers ds es) ≡ n = length_numbers es in
      permutations_are_orders (numbers ds es) (omega arith) r.0
      (λ j l. let w = within n es q.0 j l in (w.0, let u : get_or (numbers ds es) j 0 ≤ n = w.1 in omega arith))

  two_are_swapped : IsOrder (2 ∷ 1 ∷ [])
  two_are_swapped = permutations_are_orders (2 ∷ 1 ∷ []) (omega arith) refl each
    where
      each : (j : ℕ) → j < 2 → (0 < get_or (2 ∷ 1 ∷ []) j 0) × (get_or (2 ∷ 1 ∷ []) j 0 ≤ 2)
      each zero l = (omega arith, omega arith)
      each (suc zero) l = (omega arith, omega arith)
      each (suc (suc j)) l = absurd (omega arith)

  -- ---- the clauses of a directive

  sizes_fit : (k : Kind) (n : ℕ) (earlier : List ClauseKind) (taken : List ℕ) (cs : Clauses) → HasNone (clauses_breaches ds k n earlier taken cs) → AllPositive (map (number ds) (sizes_in (forget_clauses cs)))
  sizes_fit k n earlier taken no_clauses h = tt
  sizes_fit k n earlier taken (more_clauses (clause (sizes es) s) cs) h = sizes_positive es h.1.1.0
  sizes_fit k n earlier taken (more_clauses (clause c s) cs) h = sizes_fit k n (c ∷ earlier) (also_taken ds n c taken) cs h.1.1.1

  permutation_fits : (k : Kind) (n : ℕ) (earlier : List ClauseKind) (taken : List ℕ) (cs : Clauses) → HasNone (clauses_breaches ds k n earlier taken cs) → IsOrder (permutation_in ds (forget_clauses cs))
  permutation_fits k n earlier taken no_clauses h = two_are_swapped
  permutation_fits k n earlier taken (more_clauses (clause (permutation es) s) cs) h =
      subst IsOrder (sym (numbers_are es)) (permutation_is_order es (none_unless (is_permutation_of ds es) L14 _ h.1.1.0))
  permutation_fits k n earlier taken (more_clauses (clause c s) cs) h = permutation_fits k n (c ∷ earlier) (also_taken ds n c taken) cs h.1.1.1

  -- with one `omp_fill`, as the rules say, there is a count
  some_counted : (bs : List Count) → (fills bs == 1) ≡ true → 0 < length (map (count_of ds) (map forget_count bs))
  some_counted [] e = absurd (let z : 0 ≡ 1 = eqb-true 0 1 e in omega arith)
  some_counted (c ∷ bs) e = omega arith

  counts_fit : (k : Kind) (n : ℕ) (earlier : List ClauseKind) (taken : List ℕ) (cs : Clauses) → HasNone (clauses_breaches ds k n earlier taken cs) → has_kind is_counts cs ≡ true
      → 0 < length (map (count_of ds) (counts_in (forget_clauses cs)))
  counts_fit k n earlier taken no_clauses h has = absurd (cc)
  counts_fit k n earlier taken (more_clauses (clause (counts bs) s) cs) h has = some_counted bs (none_unless (fills bs == 1) L17 _ h.1.1.0.0)
  counts_fit k n earlier taken (more_clauses (clause c s) cs) h has = counts_fit k n (c ∷ earlier) (also_taken ds n c taken) cs h.1.1.1 has

  unrolled_fits : (b : Bool) (factor : ℕ) → ArgumentFits (if b then unroll_full else unroll_partial factor)
  unrolled_fits true factor = tt
  unrolled_fits false factor = tt

  argument_fits : (k : Kind) (n : ℕ) (cs : Clauses) (at : ℕ) → HasNone (required_breaches k cs at) → HasNone (clauses_breaches ds k n [] [] cs) → ArgumentFits (transformation_of ds k (forget_clauses cs))
  argument_fits Tile n cs at r h = sizes_fit Tile n [] [] cs h
  argument_fits Unroll n cs at r h = unrolled_fits (full_in (forget_clauses cs)) (factor_in ds (forget_clauses cs))
  argument_fits Interchange n cs at r h = permutation_fits Interchange n [] [] cs h
  argument_fits Reverse n cs at r h = tt
  argument_fits Split n cs at r h = counts_fit Split n [] [] cs h (none_unless (has_kind is_counts cs) L11 at r)
  argument_fits Fuse n cs at r h = tt

  -- ---- items

  insert_fits : (p : ℕ) (d : Plan) (w : Applied) → IsNoFuse d → ArgumentsFit d → ItemsFit w → ItemsFit (insert p d w)
  insert_fits p d none_applied other fits rest = (other, fits, tt)
  insert_fits p d (applied_at q e w) other fits rest = by (nat_lt q p) (insert_fits p d w other fits rest.2)
    where
      by : (b : Bool) → ItemsFit (insert p d w) → ItemsFit (if b then applied_at p d (applied_at q e w) else applied_at q e (insert p d w))
      by true below = (other, fits, rest)
      by false below = (rest.0, rest.1, below)

  pub is_other : (d : Directive) → is_fuse (acts d) ≡ false → IsNoFuse (plan_of ds (forget_directive d))
  is_other (directive Fuse cs s) h = absurd (cc)
  is_other (directive Tile cs s) h = tt
  is_other (directive Unroll cs s) h = by (full_in (forget_clauses cs))
    where
      by : (b : Bool) → IsNoFuse (plan (if b then unroll_full else unroll_partial (factor_in ds (forget_clauses cs))) (clauses_items ds (length (sizes_in (forget_clauses cs))) (forget_clauses cs) none_applied))
      by true = tt
      by false = tt
  is_other (directive Interchange cs s) h = tt
  is_other (directive Reverse cs s) h = tt
  is_other (directive Split cs s) h = tt

  mutual
    directive_fits : (d : Directive) → HasNone (directive_breaches ds d) → ArgumentsFit (plan_of ds (forget_directive d))
    directive_fits (directive k cs s) h = (
      argument_fits k (loops_of_kind k cs) cs s.start h.0 h.1,
      clauses_fit k (loops_of_kind k cs) [] [] cs (length (sizes_in (forget_clauses cs))) none_applied h.1 tt,
    )

    clauses_fit : (k : Kind) (n : ℕ) (earlier : List ClauseKind) (taken : List ℕ) (cs : Clauses) (m : ℕ) (w : Applied) → HasNone (clauses_breaches ds k n earlier taken cs) → ItemsFit w
        → ItemsFit (clauses_items ds m (forget_clauses cs) w)
    clauses_fit k n earlier taken no_clauses m w h fits = fits
    clauses_fit k n earlier taken (more_clauses (clause c s) cs) m w h fits =
        clauses_fit k n (c ∷ earlier) (also_taken ds n c taken) cs m (clause_items ds m (forget_kind c) w) h.1.1.1 (clause_fits k n taken _ c m w h.1.1.0 fits)

    clause_fits : (k : Kind) (n : ℕ) (taken : List ℕ) (at : ℕ) (c : ClauseKind) (m : ℕ) (w : Applied) → HasNone (clause_breaches ds k n taken at c) → ItemsFit w → ItemsFit (clause_items ds m (forget_kind c) w)
    clause_fits k n taken at (apply x es is) m w h fits =
        items_fit (map (λ e. before m x + number ds e) (b.expr_list (forget_exprs es))) (before m x + 1) is w
        (or_parts (not (fits_modifier k x)) (list_any is_fuse (item_list is)) (none_if (modifier_is_wrong k x is) L23 at h.0.0)).1 h.1 fits
    clause_fits k n taken at (sizes es) m w h fits = fits
    clause_fits k n taken at (permutation es) m w h fits = fits
    clause_fits k n taken at (counts cs) m w h fits = fits
    clause_fits k n taken at (looprange first count) m w h fits = fits
    clause_fits k n taken at full m w h fits = fits
    clause_fits k n taken at (partial factor) m w h fits = fits

    items_fit : (ps : List ℕ) (p : ℕ) (is : Items) (w : Applied) → list_any is_fuse (item_list is) ≡ false → HasNone (items_breaches ds is) → ItemsFit w → ItemsFit (put_items ds ps p (forget_items is) w)
    items_fit ps p no_items w other h fits = fits
    items_fit ps p (more_items (nothing s) is) w other h fits = items_fit (later_places ps) (p + 1) is w other h fits
    items_fit ps p (more_items (acts d) is) w other h fits =
        let o = or_parts (is_fuse (acts d)) (list_any is_fuse (item_list is)) other in
        items_fit (later_places ps) (p + 1) is (insert (first_place ps p) (plan_of ds (forget_directive d)) w) o.1 h.1
        (insert_fits (first_place ps p) (plan_of ds (forget_directive d)) w (is_other d o.0) (directive_fits d h.0) fits)

pub arguments_of_rules_fit : ArgumentsOfRulesFit
arguments_of_rules_fit ds d h = directive_fits ds d h
