-- The weight of a program: the expressions and statements in it, where each directive multiplies what it copies, and
-- adds for the loops that it and its items generate. It bounds the size of the translated program, and is this
-- profile's own.
use Rattle.std.specs.Prelude.{ℕ, zero, suc, ◌+◌, ◌*◌, ◌^◌, min, List, [], ◌∷◌, length, Option, Some, None}
use Rattle.c_tree.specs.Bare.{Directive, directive, Clauses, no_clauses, more_clauses, Clause, sizes, permutation, counts, looprange, full, partial, apply, Items, no_items, more_items, Item, nothing, acts, Expr, num, read, item, un, bin, cond, cast, Exprs, no_exprs, more_exprs, Target, target, Stmt, decl, set, step, print, input, if_, if_else, while_, do_, for_, block, omp, call, Stmts, no_stmts, more_stmts, MaybeStmt, no_stmt, a_stmt, head, Top, global, function, main, Program}
use Rattle.c_semantics.specs.Meaning.State.{scalar, State, with_frame, with_globals, nowhere}
use Rattle.c_semantics.specs.Meaning.Expressions.{Define}
use Rattle.c_semantics.specs.Meaning.FileVariables.{defines_with}
use Rattle.c_semantics.specs.Loops.Transformations.{Transformation, split, unroll_full, unroll_partial, Plan, plan, Applied, none_applied, applied_at}
use Rattle.c_semantics.specs.Loops.Directives.{plan_of}
use Rattle.c_semantics.specs.Loops.Need.{loops_asked}
use Rattle.c_semantics.specs.Structure.Skeleton.{scope_after, scope_in, params_frame}
use Rattle.canonical_nests.specs.declared.nest.CountKind.{CountKind}
use Rattle.canonical_nests.specs.declared.nest.CountKind.TheVariants.{Known}
use Rattle.canonical_nests.specs.Kinds.{Part, kind_at, no_part, transformed_kinds, on_position, plan_kinds}
use Rattle.canonical_nests.specs.Shapes.{body_kinds}
use Rattle.canonical_nests.specs.TallHeight.{generated}
use Rattle.std.specs.Prelude.{get_or, ◌-◌, drop}

-- ---- expressions: 1 and the weights of the parts

abbrev mutual
  pub expr_weight : Expr → ℕ
  expr_weight (num k t) = 1
  expr_weight (read x) = 1
  expr_weight (item x es) = 1 + exprs_weight es
  expr_weight (un op a) = 1 + expr_weight a
  expr_weight (bin op a b) = 1 + expr_weight a + expr_weight b
  expr_weight (cond a b c) = 1 + expr_weight a + expr_weight b + expr_weight c
  expr_weight (cast t a) = 1 + expr_weight a

  pub exprs_weight : Exprs → ℕ
  exprs_weight no_exprs = 0
  exprs_weight (more_exprs e es) = expr_weight e + exprs_weight es

abbrev pub option_weight : Option Expr → ℕ
option_weight None = 0
option_weight (Some e) = expr_weight e

abbrev pub target_weight : Target → ℕ
target_weight (target x es) = exprs_weight es

-- ---- directives

abbrev mutual
  -- 40 times 1 and the generated loops, of a directive and of all its items
  pub added_weight : Directive → ℕ
  added_weight (directive k cs) = 40 * (1 + generated k cs) + clauses_weight cs

  pub clauses_weight : Clauses → ℕ
  clauses_weight no_clauses = 0
  clauses_weight (more_clauses c cs) = clause_weight c + clauses_weight cs

  pub clause_weight : Clause → ℕ
  clause_weight (sizes es) = 0
  clause_weight (permutation es) = 0
  clause_weight (counts cs) = 0
  clause_weight (looprange first count) = 0
  clause_weight full = 0
  clause_weight (partial factor) = 0
  clause_weight (apply m es is) = items_weight is

  pub items_weight : Items → ℕ
  items_weight no_items = 0
  items_weight (more_items i is) = item_weight i + items_weight is

  pub item_weight : Item → ℕ
  item_weight nothing = 0
  item_weight (acts d) = added_weight d

-- a full unroll of a loop whose count isn't known has one copy
abbrev pub count_or_one : CountKind → ℕ
count_or_one (Known c) = c
count_or_one _ = 1

-- how often a transformation copies what stands in the loop that it takes, below k loops of the first part
abbrev pub own_copies : Transformation → ℕ → List Part → ℕ
own_copies unroll_full k ps = count_or_one (kind_at (get_or ps 0 no_part) k)
own_copies (unroll_partial f) k ps = f
own_copies (split cs) k ps = length cs
own_copies _ k ps = 1

-- the part and the loops in it round a position
abbrev pub part_of_position : Transformation → ℕ → List Part → List Part
part_of_position (split cs) p ps = drop (p - 1) ps
part_of_position (Transformation.fuse (Some r)) p ps = drop (r.0 - 1) ps
part_of_position _ p ps = ps

abbrev pub loops_round : Transformation → ℕ → ℕ → ℕ
loops_round (split cs) k p = k
loops_round _ k p = k + (p - 1)

abbrev mutual
  -- the product over a directive and all its items
  pub copies : Plan → ℕ → List Part → ℕ
  copies (plan c w) k ps = own_copies c k ps * applied_copies c w k (transformed_kinds c k ps)

  pub applied_copies : Transformation → Applied → ℕ → List Part → ℕ
  applied_copies c none_applied k ps = 1
  applied_copies c (applied_at p d w) k ps =
      copies d (loops_round c k p) (part_of_position c p ps) * applied_copies c w k (on_position c p k (plan_kinds d) ps)

-- ---- statements

abbrev pub asked_below : ℕ → ℕ
asked_below zero = 0
asked_below (suc m) = m

module _ (ds : List Define) where
  abbrev mutual
    -- of a statement of which a directive round it wants m loops
    pub stmt_weight : State → ℕ → Stmt → ℕ
    stmt_weight s m (decl t x e) = 1 + option_weight e
    stmt_weight s m (set t o e) = 1 + target_weight t + expr_weight e
    stmt_weight s m (step t up) = 1 + target_weight t
    stmt_weight s m (print e) = 1 + expr_weight e
    stmt_weight s m (input t) = 1 + target_weight t
    stmt_weight s m (if_ e a) = 1 + expr_weight e + stmts_weight s 0 a
    stmt_weight s m (if_else e a b) = 1 + expr_weight e + stmts_weight s 0 a + stmts_weight s 0 b
    stmt_weight s m (while_ e a) = 1 + expr_weight e + stmts_weight s 0 a
    stmt_weight s m (do_ a e) = 1 + stmts_weight s 0 a + expr_weight e
    stmt_weight s m (for_ (head i e next) a) =
        1 + part_weight s i + option_weight e + part_weight s next + stmts_weight (scope_in i s) (asked_below m) a
    stmt_weight s m (block a) = 1 + stmts_weight s m a
    stmt_weight s m (omp d a) =
        let p = plan_of ds d in
        let n = loops_asked p m in
        copies p 0 (body_kinds ds s n d a) * (stmts_weight s n a + added_weight d)
    stmt_weight s m (call f es) = 1 + exprs_weight es
    stmt_weight s m _ = 1

    pub stmts_weight : State → ℕ → Stmts → ℕ
    stmts_weight s m no_stmts = 0
    stmts_weight s m (more_stmts a as') = stmt_weight s m a + stmts_weight (scope_after a s) m as'

    pub part_weight : State → MaybeStmt → ℕ
    part_weight s no_stmt = 0
    part_weight s (a_stmt a) = stmt_weight s 0 a

-- ---- programs

-- the variables that are visible after an item, without values
abbrev pub scope_with : State → Top → State
scope_with s (global t x dims e) = with_globals (record { name = x; cell = scalar t None } ∷ s.globals) s
scope_with s _ = s

abbrev pub top_weight : List Define → State → Top → ℕ
top_weight ds s (global t x dims e) = 1 + exprs_weight dims + option_weight e
top_weight ds s (function x ps a) = 1 + stmts_weight ds (with_frame (params_frame ps) s) 0 a
top_weight ds s (main a) = 1 + stmts_weight ds s 0 a
top_weight ds s _ = 1

abbrev pub weight_from : List Define → State → Program → ℕ
weight_from ds s [] = 0
weight_from ds s (top ∷ tops) = top_weight ds s top + weight_from (defines_with ds top) (scope_with s top) tops

abbrev pub weight : Program → ℕ
weight = weight_from [] nowhere

-- the greatest weight that a program with directives may have, and a count that stops above it
abbrev pub most_weight : ℕ
most_weight = 2 ^ 20

abbrev pub capped_weight : ℕ → ℕ
capped_weight n = min n (most_weight + 1)
