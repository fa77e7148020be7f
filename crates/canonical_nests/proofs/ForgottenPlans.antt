-- The plan of a directive with its places is the plan of what is left of the directive when its places are forgotten.
use Rattle.std.proofs.Common.{◌≡◌, ◌∙◌, sym, ap, refl, ◌+◌, ℕ, List, [], ◌∷◌, map, length, Bool, true, false, nat_lt}
use Rattle.std.specs.Prelude.{if◌then◌else◌}
use Rattle.c_tree.specs.Bare as b
use Rattle.c_tree.specs.Placed.{Exprs, no_exprs, more_exprs, expr_list, Directive, directive, Clauses, no_clauses, more_clauses, clause, ClauseKind, sizes, permutation, counts, looprange, full, partial, apply, Items, no_items, more_items, Item, nothing, acts}
use Rattle.c_tree.specs.Forget.{forget_expr, forget_exprs, forget_directive, forget_clauses, forget_kind, forget_items as forget_list, forget_item}
use Rattle.c_semantics.specs.Meaning.Expressions.{Define}
use Rattle.c_semantics.specs.Loops.Transformations as t
use Rattle.c_semantics.specs.Loops.Directives as said
use Rattle.c_semantics.specs.Loops.Directives.{number, sizes_in, transformation_of, before, first_place, later_places}
use Rattle.canonical_nests.specs.LoopRules.PlacedPlans.{PlacedPlan, PlacedItems, none_applied, applied_at, forget_plan, forget_items, insert, placed_plan, clauses_items, clause_items, put_items, put_item}

insert_is : (p : ℕ) (d : PlacedPlan) (w : PlacedItems) → forget_items (insert p d w) ≡ said.insert p (forget_plan d) (forget_items w)
insert_is p d none_applied = refl
insert_is p d (applied_at q e w) = either (insert_is p d w) (nat_lt q p)
  where
    either : forget_items (insert p d w) ≡ said.insert p (forget_plan d) (forget_items w) → (c : Bool)
        → forget_items (if c then applied_at p d (applied_at q e w) else applied_at q e (insert p d w))
        ≡ (if c then t.applied_at p (forget_plan d) (t.applied_at q (forget_plan e) (forget_items w)) else t.applied_at q (forget_plan e) (said.insert p (forget_plan d) (forget_items w)))
    either is true = refl
    either is false = ap (t.applied_at q (forget_plan e)) is

module _ (ds : List Define) where
  positions_are : (k : ℕ) (es : Exprs) → map (λ e. k + number ds (forget_expr e)) (expr_list es) ≡ map (λ e. k + number ds e) (b.expr_list (forget_exprs es))
  positions_are k no_exprs = refl
  positions_are k (more_exprs e es) = ap (λ ps. (k + number ds (forget_expr e)) ∷ ps) (positions_are k es)

  mutual
    pub plan_is : (d : Directive) → forget_plan (placed_plan ds d) ≡ said.plan_of ds (forget_directive d)
    plan_is (directive k cs s) = ap (t.plan (transformation_of ds k (forget_clauses cs))) (clauses_are (length (sizes_in (forget_clauses cs))) cs none_applied)

    clauses_are : (n : ℕ) (cs : Clauses) (w : PlacedItems) → forget_items (clauses_items ds n cs w) ≡ said.clauses_items ds n (forget_clauses cs) (forget_items w)
    clauses_are n no_clauses w = refl
    clauses_are n (more_clauses (clause c s) cs) w =
        clauses_are n cs (clause_items ds n c w) ∙ ap (said.clauses_items ds n (forget_clauses cs)) (clause_is n c w)

    clause_is : (n : ℕ) (c : ClauseKind) (w : PlacedItems) → forget_items (clause_items ds n c w) ≡ said.clause_items ds n (forget_kind c) (forget_items w)
    clause_is n (sizes es) w = refl
    clause_is n (permutation es) w = refl
    clause_is n (counts cs) w = refl
    clause_is n (looprange first count) w = refl
    clause_is n full w = refl
    clause_is n (partial factor) w = refl
    clause_is n (apply m es is) w =
        items_are (map (λ e. before n m + number ds (forget_expr e)) (expr_list es)) (before n m + 1) is w
        ∙ ap (λ ps. said.put_items ds ps (before n m + 1) (forget_list is) (forget_items w)) (positions_are (before n m) es)

    items_are : (ps : List ℕ) (k : ℕ) (is : Items) (w : PlacedItems) → forget_items (put_items ds ps k is w) ≡ said.put_items ds ps k (forget_list is) (forget_items w)
    items_are ps k no_items w = refl
    items_are ps k (more_items i is) w =
        items_are (later_places ps) (k + 1) is (put_item ds (first_place ps k) i w)
        ∙ ap (said.put_items ds (later_places ps) (k + 1) (forget_list is)) (item_is (first_place ps k) i w)

    item_is : (p : ℕ) (i : Item) (w : PlacedItems) → forget_items (put_item ds p i w) ≡ said.put_item ds p (forget_item i) (forget_items w)
    item_is p (nothing s) w = refl
    item_is p (acts d) w = insert_is p (placed_plan ds d) w ∙ ap (λ e. said.insert p e (forget_items w)) (plan_is d)

pub ruleset forgotten_plans = (plan_is)
