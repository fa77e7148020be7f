-- What a written directive says, as the plan of c_semantics does, with the place of each directive's name.
use Rattle.std.specs.Prelude.{ℕ, ◌+◌, List, map, length, nat_lt, if◌then◌else◌}
use Rattle.c_tree.specs.Placed.{Directive, directive, Clauses, no_clauses, more_clauses, clause, ClauseKind, apply, Items, no_items, more_items, Item, nothing, acts, expr_list}
use Rattle.c_tree.specs.Forget.{forget_expr, forget_clauses}
use Rattle.c_semantics.specs.Meaning.Expressions.{Define}
use Rattle.c_semantics.specs.Loops.Transformations as bare
use Rattle.c_semantics.specs.Loops.Transformations.{Transformation}
use Rattle.c_semantics.specs.Loops.Directives.{number, sizes_in, transformation_of, before, first_place, later_places}

mutual
  -- a transformation, the place of its directive's name, and its items, the last position first
  pub data PlacedPlan : Type 0 where
    plan : Transformation → ℕ → PlacedItems → PlacedPlan

  pub data PlacedItems : Type 0 where
    none_applied : PlacedItems
    applied_at : ℕ → PlacedPlan → PlacedItems → PlacedItems

abbrev mutual
  pub forget_plan : PlacedPlan → bare.Plan
  forget_plan (plan c at w) = bare.plan c (forget_items w)

  pub forget_items : PlacedItems → bare.Applied
  forget_items none_applied = bare.none_applied
  forget_items (applied_at p d w) = bare.applied_at p (forget_plan d) (forget_items w)

-- the last position first
abbrev pub insert : ℕ → PlacedPlan → PlacedItems → PlacedItems
insert p d none_applied = applied_at p d none_applied
insert p d (applied_at q e w) = if nat_lt q p then applied_at p d (applied_at q e w) else applied_at q e (insert p d w)

module _ (ds : List Define) where
  abbrev mutual
    pub placed_plan : Directive → PlacedPlan
    placed_plan (directive k cs s) =
        plan (transformation_of ds k (forget_clauses cs)) s.start (clauses_items (length (sizes_in (forget_clauses cs))) cs none_applied)

    -- n is the number of sizes
    pub clauses_items : ℕ → Clauses → PlacedItems → PlacedItems
    clauses_items n no_clauses w = w
    clauses_items n (more_clauses (clause c s) cs) w = clauses_items n cs (clause_items n c w)

    pub clause_items : ℕ → ClauseKind → PlacedItems → PlacedItems
    clause_items n (apply m es is) w = put_items (map (λ e. before n m + number ds (forget_expr e)) (expr_list es)) (before n m + 1) is w
    clause_items n _ w = w

    pub put_items : List ℕ → ℕ → Items → PlacedItems → PlacedItems
    put_items ps k no_items w = w
    put_items ps k (more_items i is) w = put_items (later_places ps) (k + 1) is (put_item (first_place ps k) i w)

    pub put_item : ℕ → Item → PlacedItems → PlacedItems
    put_item p (nothing s) w = w
    put_item p (acts d) w = insert p (placed_plan d) w
