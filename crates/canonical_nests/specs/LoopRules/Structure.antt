-- The rules of what stands in a directive's body (OpenMP 6.0, 6.4: canonical loop nests and canonical loop sequences; 11:
-- the loops that a construct takes): L1, L7, L19 to L22. A list that holds only one block is read as that block's list. A
-- directive round one that breaks one of these rules isn't tested for them, since it finds no loops.
use Rattle.std.specs.Prelude.{ℕ, zero, suc, ◌+◌, ◌-◌, List, [], ◌∷◌, ◌++◌, Some, Bool, true, false, not, ◌==◌, nat_lt, nat_le, get_or, length, unwrap_or, if◌then◌else◌}
use Rattle.std.specs.List.{list_any}
use Rattle.c_tree.specs.Placed.{Stmt, for_, block, omp, Stmts, no_stmts, more_stmts, Directive, directive, Clauses, no_clauses, more_clauses, clause, looprange, stmt_span}
use Rattle.c_tree.specs.Forget.{forget_stmt, forget_directive}
use Rattle.c_tree.specs.declared.tree.Kind.TheVariants.{Fuse}
use Rattle.c_semantics.specs.Meaning.Expressions.{Define}
use Rattle.c_semantics.specs.Loops.Transformations.{Transformation, split, fuse}
use Rattle.c_semantics.specs.Loops.Directives.{plan_of}
use Rattle.c_semantics.specs.Loops.Need.{takes, depths, transformed_depths, position_depths, loops_asked}
use Rattle.c_semantics.specs.Loops.StatementDepths.{stmt_depths}
use Rattle.canonical_nests.specs.declared.rules.LoopRule.TheVariants.{L1, L7, L19, L20, L21, L22}
use Rattle.canonical_nests.specs.LoopRules.BreachSets.{BreachSet, none, ◌&◌, breach, breach_if, or_else}
use Rattle.canonical_nests.specs.LoopRules.PlacedPlans.{PlacedPlan, plan, PlacedItems, none_applied, applied_at, placed_plan, forget_plan}

-- ---- depths

-- L22: the part has no loop, since a directive left none. L7: it has fewer loops than are taken
abbrev pub depth_breaches : Transformation → ℕ → ℕ → BreachSet
depth_breaches c at zero = breach L22 at
depth_breaches c at (suc k) = breach_if (nat_lt (suc k) (takes c)) L7 at

-- the depth of the part at an item's position
abbrev pub depth_at : Transformation → ℕ → List ℕ → ℕ
depth_at (split cs) p ks = get_or ks (p - 1) 0
depth_at (fuse (Some r)) p ks = get_or ks (r.0 - 1) 0 - (p - 1)
depth_at _ p ks = get_or ks 0 0 - (p - 1)

abbrev pub after_item : Transformation → ℕ → PlacedPlan → List ℕ → List ℕ
after_item c p d ks = unwrap_or (position_depths c p (depths (forget_plan d)) ks) []

abbrev mutual
  -- of a directive or an item over a part of depth k, and then of its items, from the last position to the first
  pub plan_breaches : PlacedPlan → ℕ → BreachSet
  plan_breaches (plan c at w) k = or_else (depth_breaches c at k) (items_breaches c w (transformed_depths c (k ∷ [])))

  pub items_breaches : Transformation → PlacedItems → List ℕ → BreachSet
  items_breaches c none_applied ks = none
  items_breaches c (applied_at p d w) ks =
      or_else (plan_breaches d (depth_at c p ks)) (items_breaches c w (after_item c p d ks))

-- ---- bodies

abbrev pub is_loop : Stmt → Bool
is_loop (for_ h a s) = true
is_loop (omp d a s) = true
is_loop _ = false

abbrev pub stmt_list : Stmts → List Stmt
stmt_list no_stmts = []
stmt_list (more_stmts a as') = a ∷ stmt_list as'

-- the statements of a list, without a block that alone holds them
abbrev pub unwrapped : Stmts → List Stmt
unwrapped no_stmts = []
unwrapped (more_stmts (block a s) no_stmts) = unwrapped a
unwrapped as' = stmt_list as'

-- the depths of the parts of loops one after another, none of which breaks a rule
abbrev pub parts_of : List Define → Stmt → List ℕ
parts_of ds a = unwrap_or (stmt_depths ds (forget_stmt a)) []

abbrev pub parts_of_all : List Define → List Stmt → List ℕ
parts_of_all ds [] = []
parts_of_all ds (a ∷ as') = parts_of ds a ++ parts_of_all ds as'

-- L21: the one statement gives several parts. Else its part is tested
abbrev pub nest_breaches : PlacedPlan → ℕ → List ℕ → BreachSet
nest_breaches p at (k ∷ []) = plan_breaches p k
nest_breaches p at ks = breach L21 at

-- L1: the body is empty, or begins with neither a `for` nor a directive. L21: it has several statements
abbrev pub one_loop_breaches : List Define → PlacedPlan → ℕ → List Stmt → BreachSet
one_loop_breaches ds p at [] = breach L1 at
one_loop_breaches ds p at (a ∷ []) = if is_loop a then nest_breaches p at (parts_of ds a) else breach L1 (stmt_span a).start
one_loop_breaches ds p at (a ∷ b ∷ as') = breach_if (not (is_loop a)) L1 (stmt_span a).start & breach L21 at

-- L20: a member is neither a `for` nor a directive
abbrev pub member_breaches : List Stmt → BreachSet
member_breaches [] = none
member_breaches (a ∷ as') = breach_if (not (is_loop a)) L20 (stmt_span a).start & member_breaches as'

-- L19: the range ends after the last part
abbrev pub ends_within : Transformation → ℕ → Bool
ends_within (fuse (Some r)) n = nat_le (r.0 + r.1) (n + 1)
ends_within _ n = true

abbrev pub range_place : ℕ → Clauses → ℕ
range_place at no_clauses = at
range_place at (more_clauses (clause (looprange a b) s) cs) = s.start
range_place at (more_clauses (clause _ s) cs) = range_place at cs

-- L22: a part of the sequence has no loop
abbrev pub sequence_breaches : PlacedPlan → ℕ → List ℕ → BreachSet
sequence_breaches (plan c at w) range ks =
    or_else (breach_if (list_any (λ k. k == 0) ks) L22 at & breach_if (not (ends_within c (length ks))) L19 range)
    (items_breaches c w (transformed_depths c ks))

abbrev pub loops_breaches : List Define → PlacedPlan → ℕ → Clauses → List Stmt → BreachSet
loops_breaches ds p at cs [] = breach L1 at
loops_breaches ds p at cs as' = or_else (member_breaches as') (sequence_breaches p (range_place at cs) (parts_of_all ds as'))

-- of a directive in whose body none breaks a rule
abbrev pub body_breaches : List Define → Directive → Stmts → BreachSet
body_breaches ds (directive Fuse cs s) a = loops_breaches ds (placed_plan ds (directive Fuse cs s)) s.start cs (unwrapped a)
body_breaches ds (directive k cs s) a = one_loop_breaches ds (placed_plan ds (directive k cs s)) s.start (unwrapped a)

-- ---- constructs

module _ (ds : List Define) where
  abbrev mutual
    -- of a statement of which a directive round it wants m loops
    pub stmt_breaches : ℕ → Stmt → BreachSet
    stmt_breaches zero _ = none
    stmt_breaches (suc m) (for_ h a s) = stmts_breaches m a
    stmt_breaches (suc m) (block a s) = stmts_breaches (suc m) a
    stmt_breaches (suc m) (omp d a s) =
        or_else (stmts_breaches (loops_asked (plan_of ds (forget_directive d)) (suc m)) a) (body_breaches ds d a)
    stmt_breaches (suc m) _ = none

    pub stmts_breaches : ℕ → Stmts → BreachSet
    stmts_breaches m no_stmts = none
    stmts_breaches m (more_stmts a as') = stmt_breaches m a & stmts_breaches m as'

  abbrev pub construct_breaches : Directive → Stmts → BreachSet
  construct_breaches d a = or_else (stmts_breaches (loops_asked (plan_of ds (forget_directive d)) 0) a) (body_breaches ds d a)
