-- The rules of counts (OpenMP 6.0, 11: `tile` and `interchange` take a rectangular nest, `unroll` with `full` a constant
-- count): L8 of the loops that a directive takes, and L16. A directive stands at its name, and so does an item of `apply`.
use Rattle.std.specs.Prelude.{ℕ, zero, suc, ◌+◌, List, [], ◌∷◌, length, take, drop, is_none, Bool, false, not, ◌&&◌, ◌||◌, ◌==◌, nat_lt, nat_le, get_or}
use Rattle.std.specs.List.{list_any}
use Rattle.c_tree.specs.Placed.{Stmt, for_, block, omp, Stmts, no_stmts, more_stmts, Head, head, Directive}
use Rattle.c_tree.specs.Forget.{forget_stmts, forget_directive, forget_maybe}
use Rattle.c_semantics.specs.Meaning.State.{State}
use Rattle.c_semantics.specs.Meaning.Expressions.{Define}
use Rattle.c_semantics.specs.Loops.Transformations.{Transformation, tile, interchange, unroll_full}
use Rattle.c_semantics.specs.Loops.Directives.{plan_of}
use Rattle.c_semantics.specs.Loops.Need.{loops_asked}
use Rattle.c_semantics.specs.Structure.Skeleton.{scope_in}
use Rattle.canonical_nests.specs.Kinds.{Part, no_part, kind_at, known_count, depends_on, transformed_kinds, on_position, plan_kinds}
use Rattle.canonical_nests.specs.Shapes.{body_kinds}
use Rattle.canonical_nests.specs.Weight.{part_of_position, loops_round}
use Rattle.canonical_nests.specs.declared.rules.LoopRule.TheVariants.{L8, L16}
use Rattle.canonical_nests.specs.declared.nest.CountKind.{CountKind}
use Rattle.canonical_nests.specs.LoopRules.BreachSets.{BreachSet, none, ◌&◌, breach_if}
use Rattle.canonical_nests.specs.LoopRules.PlacedPlans.{PlacedPlan, plan, PlacedItems, none_applied, applied_at, placed_plan, forget_plan}

-- ---- the rules of the loops that are taken

-- a loop at a position after k, up to k + n
abbrev pub is_among_taken : ℕ → ℕ → ℕ → Bool
is_among_taken k n p = nat_lt k p && nat_le p (k + n)

-- a loop at position q depends on another of these
abbrev pub depends_on_taken : ℕ → ℕ → ℕ → CountKind → Bool
depends_on_taken k n q c = list_any (λ p. is_among_taken k n p && not (p == q)) (depends_on c)

abbrev pub some_depends : ℕ → ℕ → ℕ → Part → Bool
some_depends k n q [] = false
some_depends k n q (c ∷ cs) = depends_on_taken k n q c || some_depends k n (q + 1) cs

-- the count of one of the n loops after k depends on another of them
abbrev pub depend_on_another : ℕ → ℕ → Part → Bool
depend_on_another k n ks = some_depends k n (k + 1) (take n (drop k ks))

-- below k loops of the first part
abbrev pub taken_breaches : Transformation → ℕ → ℕ → List Part → BreachSet
taken_breaches (tile ss) at k ps = breach_if (depend_on_another k (length ss) (get_or ps 0 no_part)) L8 at
taken_breaches (interchange qs) at k ps = breach_if (depend_on_another k (length qs) (get_or ps 0 no_part)) L8 at
taken_breaches unroll_full at k ps = breach_if (is_none (known_count (kind_at (get_or ps 0 no_part) k))) L16 at
taken_breaches _ at k ps = none

abbrev mutual
  -- of a directive or an item below k loops, and of its items from the last position to the first
  pub plan_breaches : PlacedPlan → ℕ → List Part → BreachSet
  plan_breaches (plan c at w) k ps = taken_breaches c at k ps & items_breaches c w k (transformed_kinds c k ps)

  pub items_breaches : Transformation → PlacedItems → ℕ → List Part → BreachSet
  items_breaches c none_applied k ps = none
  items_breaches c (applied_at p d w) k ps =
      plan_breaches d (loops_round c k p) (part_of_position c p ps)
      & items_breaches c w k (on_position c p k (plan_kinds (forget_plan d)) ps)

-- ---- constructs

module _ (ds : List Define) where
  abbrev pub directive_breaches : State → ℕ → Directive → Stmts → BreachSet
  directive_breaches s n d a = plan_breaches (placed_plan ds d) 0 (body_kinds ds s n (forget_directive d) (forget_stmts a))

  abbrev pub scope_of : Head → State → State
  scope_of (head i i_at e e_at next next_at) s = scope_in (forget_maybe i) s

  abbrev mutual
    -- of a statement of which a directive round it wants m loops
    pub stmt_breaches : State → ℕ → Stmt → BreachSet
    stmt_breaches s zero _ = none
    stmt_breaches s (suc m) (for_ h a span) = stmts_breaches (scope_of h s) m a
    stmt_breaches s (suc m) (block a span) = stmts_breaches s (suc m) a
    stmt_breaches s (suc m) (omp d a span) =
        let n = loops_asked (plan_of ds (forget_directive d)) (suc m) in
        directive_breaches s n d a & stmts_breaches s n a
    stmt_breaches s (suc m) _ = none

    pub stmts_breaches : State → ℕ → Stmts → BreachSet
    stmts_breaches s m no_stmts = none
    stmts_breaches s m (more_stmts a as') = stmt_breaches s m a & stmts_breaches s m as'

abbrev pub construct_breaches : List Define → State → Directive → Stmts → BreachSet
construct_breaches ds s d a =
    let n = loops_asked (plan_of ds (forget_directive d)) 0 in
    directive_breaches ds s n d a & stmts_breaches ds s n a
