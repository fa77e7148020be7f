-- A directive that breaks no clause rule, and that is `reverse` with all its items, has a plan that only reverses.
use Rattle.std.proofs.Common.{◌≡◌, refl, sym, ap, subst, ℕ, suc, ◌+◌, ◌≤◌, List, [], ◌∷◌, map, length, Option, Some, None, Bool, true, false, arith}
use Rattle.std.specs.Prelude.{◌&&◌, ◌||◌, not, nat_le, nat_lt, if◌then◌else◌, bytes_eq, codes}
use Rattle.std.proofs.lemmas.Bool.{leb-true, le-leb, and_parts, and_from}
use Rattle.std.proofs.lemmas.Bool.Decides.{nat_tests}
use Rattle.c_tree.specs.Bare as bare
use Rattle.c_tree.specs.Bare.{Name}
use Rattle.c_tree.specs.Placed.{Exprs, no_exprs, more_exprs, Directive, directive, Clauses, no_clauses, more_clauses, clause, ClauseKind, apply, Items, no_items, more_items, Item, nothing, acts}
use Rattle.c_tree.specs.Forget.{forget_expr, forget_exprs, forget_directive, forget_clauses, forget_items, forget_item}
use Rattle.c_tree.specs.declared.tree.Kind.TheVariants.{Reverse}
use Rattle.c_semantics.specs.Meaning.Expressions.{Define}
use Rattle.c_semantics.specs.Loops.Transformations.{Plan, Applied, none_applied, applied_at}
use Rattle.c_semantics.specs.Loops.Directives.{number, before, first_place, insert, plan_of, clauses_items, clause_items, put_items, put_item, sizes_in}
use Rattle.canonical_nests.specs.LoopRules.BreachSets.{HasNone, breach_if}
use Rattle.canonical_nests.specs.LoopRules.Clauses as rules
use Rattle.canonical_nests.specs.LoopRules.Clauses.{item_list, is_constant_from, placed_number, are_from_one_to, indices_fit, apply_breaches, also_taken}
use Rattle.canonical_nests.specs.declared.rules.LoopRule.TheVariants.{L24, L25}
use Rattle.carried_out.specs.AllReverse.{is_reverse, clauses_reverse, items_reverse, item_reverses}
use Rattle.carried_out.specs.Reversible.{is_reversal, are_reversals}
use Rattle.canonical_nests.proofs.BreachSets.{none_if}

-- ---- the plan of a directive

inserted : (p : ℕ) (d : Plan) (w : Applied) → nat_le p 1 ≡ true → is_reversal d ≡ true → are_reversals w ≡ true → are_reversals (insert p d w) ≡ true
inserted p d none_applied hp hd hw = and_from (nat_le p 1) (is_reversal d && true) hp (and_from (is_reversal d) true hd refl)
inserted p d (applied_at q e w) hp hd hw =
    by (inserted p d w hp hd (and_parts (is_reversal e) (are_reversals w) (and_parts (nat_le q 1) (is_reversal e && are_reversals w) hw).1).1) (nat_lt q p)
  where
    by : are_reversals (insert p d w) ≡ true → (t : Bool) → are_reversals (if t then applied_at p d (applied_at q e w) else applied_at q e (insert p d w)) ≡ true
    by below true = and_from (nat_le p 1) (is_reversal d && are_reversals (applied_at q e w)) hp (and_from (is_reversal d) (are_reversals (applied_at q e w)) hd hw)
    by below false =
        let rest = (and_parts (nat_le q 1) (is_reversal e && are_reversals w) hw).1 in
        and_from (nat_le q 1) (is_reversal e && are_reversals (insert p d w)) (and_parts (nat_le q 1) (is_reversal e && are_reversals w) hw).0
        (and_from (is_reversal e) (are_reversals (insert p d w)) (and_parts (is_reversal e) (are_reversals w) rest).0 below)

no_loops_before : (m : Option Name) → before 0 m ≡ 0
no_loops_before None = refl
no_loops_before (Some x) = by (bytes_eq x (codes "intratile"))
  where
    zero_loops : ℕ
    zero_loops = 0

    by : (t : Bool) → (if t then zero_loops else zero_loops) ≡ zero_loops
    by true = refl
    by false = refl

-- the position of a clause's first item
first_at : (ds : List Define) (m : Option Name) (es : Exprs) (is : Items) → indices_fit ds 1 es is ≡ true
    → nat_le (first_place (map (λ e. before 0 m + number ds e) (bare.expr_list (forget_exprs es))) (before 0 m + 1)) 1 ≡ true
first_at ds m no_exprs is h = rw (no_loops_before m) refl
first_at ds m (more_exprs e es) is h =
    let from_one = (and_parts (are_from_one_to ds 1 (more_exprs e es)) _ h).0 in
    let first = (and_parts (is_constant_from ds 1 e && nat_le (placed_number ds e) 1) _ from_one).0 in
    let small : number ds (forget_expr e) ≤ 1 = leb-true _ 1 (and_parts (is_constant_from ds 1 e) _ first).1 in
    let none : before 0 m ≡ 0 = no_loops_before m in
    le-leb (before 0 m + number ds (forget_expr e)) 1 (omega arith)

sizes_absent : (ds : List Define) (n : ℕ) (cs : Clauses) (earlier : List ClauseKind) (taken : List ℕ)
    → HasNone (rules.clauses_breaches ds Reverse n earlier taken cs) → sizes_in (forget_clauses cs) ≡ []
sizes_absent ds n no_clauses earlier taken h = refl
sizes_absent ds n (more_clauses (clause (apply m es is) s) cs) earlier taken h =
    sizes_absent ds n cs (apply m es is ∷ earlier) (also_taken ds n (apply m es is) taken) h.1.1.1
sizes_absent ds n (more_clauses (clause _ s) cs) earlier taken h = absurd h.1.0

two_items : (k : ℕ) → nat_lt 1 (suc (suc k)) ≡ false → ⊥
two_items k h = grind (arith, nat_tests)

-- indices that break no rule fit
fitting : (a c : Bool) (at : ℕ) → HasNone (breach_if (not a || c) L25 at) → a ≡ true
fitting true c at h = refl
fitting false c at h = absurd h

mutual
  -- of a directive that breaks no clause rule
  pub only_reverses : (ds : List Define) (d : Directive) → is_reverse (forget_directive d) ≡ true → HasNone (rules.directive_breaches ds d) → is_reversal (plan_of ds (forget_directive d)) ≡ true
  only_reverses ds (directive Reverse cs s) h b =
      let none : length (sizes_in (forget_clauses cs)) ≡ 0 = ap length (sizes_absent ds 1 cs [] [] b.1) in
      subst (λ n. are_reversals (clauses_items ds n (forget_clauses cs) none_applied) ≡ true) (sym none) (clauses_reverse_only ds cs [] [] none_applied h b.1 refl)
  only_reverses ds (directive _ cs s) h b = absurd (cc)

  clauses_reverse_only : (ds : List Define) (cs : Clauses) (earlier : List ClauseKind) (taken : List ℕ) (w : Applied)
      → clauses_reverse (forget_clauses cs) ≡ true → HasNone (rules.clauses_breaches ds Reverse 1 earlier taken cs) → are_reversals w ≡ true
      → are_reversals (clauses_items ds 0 (forget_clauses cs) w) ≡ true
  clauses_reverse_only ds no_clauses earlier taken w h b k = k
  clauses_reverse_only ds (more_clauses (clause (apply m es is) s) cs) earlier taken w h b k =
      clauses_reverse_only ds cs (apply m es is ∷ earlier) (also_taken ds 1 (apply m es is) taken)
      (clause_items ds 0 (bare.apply m (forget_exprs es) (forget_items is)) w)
      (and_parts (items_reverse (forget_items is)) (clauses_reverse (forget_clauses cs)) h).1 b.1.1.1
      (apply_reverses_only ds taken m es is s.start w (and_parts (items_reverse (forget_items is)) (clauses_reverse (forget_clauses cs)) h).0 b.1.1.0 k)
  clauses_reverse_only ds (more_clauses (clause _ s) cs) earlier taken w h b k = absurd b.1.0

  apply_reverses_only : (ds : List Define) (taken : List ℕ) (m : Option Name) (es : Exprs) (is : Items) (at : ℕ) (w : Applied)
      → items_reverse (forget_items is) ≡ true
      → HasNone (apply_breaches ds Reverse 1 taken m es is at) × HasNone (rules.items_breaches ds is) → are_reversals w ≡ true
      → are_reversals (put_items ds (map (λ e. before 0 m + number ds e) (bare.expr_list (forget_exprs es))) (before 0 m + 1) (forget_items is) w) ≡ true
  apply_reverses_only ds taken m es no_items at w h k own = own
  apply_reverses_only ds taken m es (more_items i no_items) at w h k own =
      item_reverses_only ds i _ w (and_parts (item_reverses (forget_item i)) true h).0 k.1 (first_at ds m es (more_items i no_items) (fitting (indices_fit ds 1 es (more_items i no_items)) _ at k.0.1.1)) own
  apply_reverses_only ds taken m es (more_items i (more_items j is)) at w h k own = absurd (two_items (length (item_list is)) (none_if _ L24 at k.0.1.0))

  item_reverses_only : (ds : List Define) (i : Item) (p : ℕ) (w : Applied) → item_reverses (forget_item i) ≡ true → HasNone (rules.items_breaches ds (more_items i no_items))
      → nat_le p 1 ≡ true → are_reversals w ≡ true → are_reversals (put_item ds p (forget_item i) w) ≡ true
  item_reverses_only ds (nothing s) p w h b at own = own
  item_reverses_only ds (acts d) p w h b at own = inserted p (plan_of ds (forget_directive d)) w at (only_reverses ds d h b.0) own
