-- What stands in a directive's body, by how much it is, and what loops over it have left.
use Rattle.std.proofs.Common.{◌≡◌, ◌∙◌, sym, ap, refl, ◌<◌, ◌≤◌, ◌+◌, ◌≢◌, ℕ, List, [], ◌∷◌, ◌++◌, map, length, drop, get_or, slice_index_or, Some, None, true, false, ◌||◌, arith}
use Rattle.std.specs.Prelude.{◌==◌, not, unwrap_or, if◌then◌else◌}
use Rattle.std.specs.List.{list_any}
use Rattle.std.proofs.lemmas.Bool.{false≢true}
use Rattle.c_tree.specs.Placed as p
use Rattle.c_tree.specs.Placed.{stmt_span, directive, clause, more_clauses}
use Rattle.c_tree.specs.BareOf.{bare_stmt}
use Rattle.c_tree.specs.PlacedOf.{placed_stmt, placed_kind, placed_clauses, placed_directive}
use Rattle.c_tree.specs.declared.tree.Kind.{Kind}
use Rattle.c_tree.specs.declared.tree.Kind.TheVariants.{Tile, Unroll, Interchange, Reverse, Split, Fuse}
use Rattle.c_tree.specs.declared.tree.Span.{Span}
use Rattle.c_tree.specs.declared.tree.Stmt.{Stmt}
use Rattle.c_tree.specs.declared.tree.Clause.{Clause, out-Clause}
use Rattle.c_tree.specs.declared.tree.Directive.{Directive, out-Directive}
use Rattle.c_tree.proofs.Walks.{rest_more, rest_none}
use Rattle.c_tree.proofs.Forgotten.Stmts.{bare_stmt_is}
use Rattle.c_semantics.specs.Meaning.Expressions.{Define}
use Rattle.c_semantics.specs.Loops.Transformations as t
use Rattle.c_semantics.specs.Loops.Need.{transformed_depths}
use Rattle.c_semantics.specs.Loops.StatementDepths.{stmt_depths}
use Rattle.canonical_nests.specs.declared.rules.LoopBreach.{LoopBreach}
use Rattle.canonical_nests.specs.declared.rules.LoopRule.TheVariants.{L1, L19, L20, L21, L22}
use Rattle.canonical_nests.specs.LoopRules.BreachSets.{BreachSet, ◌&◌, breach, breach_if, lesser, least}
use Rattle.canonical_nests.specs.LoopRules.PlacedPlans.{PlacedPlan, PlacedItems, placed_plan}
use Rattle.canonical_nests.specs.LoopRules.Structure.{is_loop, parts_of, parts_of_all, unwrapped, plan_breaches, items_breaches, nest_breaches, one_loop_breaches, member_breaches, ends_within, range_place, sequence_breaches, loops_breaches, body_breaches}
use Rattle.canonical_nests.specs.Plans.{seen_transformation, seen_plan, seen_item, gather}
use Rattle.canonical_nests.specs.declared.plan.Plan.{Plan, out-Plan}
use Rattle.canonical_nests.proofs.ClauseFields.{placed_clause_out}
use Rattle.canonical_nests.proofs.HeldTrees.{directive_held, good_more}
use Rattle.canonical_nests.proofs.Order.{lesser_joins, lesser_none, else_first, else_second}
use Rattle.canonical_nests.proofs.Planned.{seen_plan_out, placed_directive_out}
use Rattle.loop_structure.specs.Members.{standing_depths, is_range, finds_all}
use Rattle.loop_structure.specs.declared.found.Standing.TheVariants.{Alone}
use Rattle.loop_structure.proofs.FoundDepths.{alone, single_good}

-- ---- the members of a list

pub members_more : (xs : List Stmt) (i : ℕ) (x : Stmt) → i < length xs → x ≡ slice_index_or xs i x
    → least (member_breaches (map placed_stmt (drop i xs)))
    ≡ lesser (least (breach_if (not (is_loop (placed_stmt x))) L20 (stmt_span (placed_stmt x)).start)) (least (member_breaches (map placed_stmt (drop (i + 1) xs))))
members_more xs i = rest_more (λ ys. least (member_breaches (map placed_stmt ys))) xs i

pub members_end : (xs : List Stmt) (i : ℕ) → length xs ≤ i → least (member_breaches (map placed_stmt (drop i xs))) ≡ None
members_end xs i = rest_none (λ ys. least (member_breaches (map placed_stmt ys))) xs i

pub all_more : (ds : List Define) (xs : List Stmt) (i : ℕ) (x : Stmt) → i < length xs → x ≡ slice_index_or xs i x
    → parts_of_all ds (map placed_stmt (drop i xs)) ≡ parts_of ds (placed_stmt x) ++ parts_of_all ds (map placed_stmt (drop (i + 1) xs))
all_more ds xs i = rest_more (λ ys. parts_of_all ds (map placed_stmt ys)) xs i

pub all_end : (ds : List Define) (xs : List Stmt) (i : ℕ) → length xs ≤ i → parts_of_all ds (map placed_stmt (drop i xs)) ≡ []
all_end ds xs i = rest_none (λ ys. parts_of_all ds (map placed_stmt ys)) xs i

pub zero_more : (xs : List ℕ) (i x : ℕ) → i < length xs → x ≡ slice_index_or xs i x → list_any (λ k. k == 0) (drop i xs) ≡ ((x == 0) || list_any (λ k. k == 0) (drop (i + 1) xs))
zero_more xs i = rest_more (list_any (λ k. k == 0)) xs i

pub zero_end : (xs : List ℕ) (i : ℕ) → length xs ≤ i → list_any (λ k. k == 0) (drop i xs) ≡ false
zero_end xs i = rest_none (list_any (λ k. k == 0)) xs i

pub ruleset bodies = (members_more, members_end, all_more, all_end, zero_more, zero_end, good_more, lesser_joins, lesser_none)

-- ---- the parts of a statement

pub parts_are : (ds : List Define) (x : Stmt) → parts_of ds (placed_stmt x) ≡ unwrap_or (standing_depths ds (bare_stmt x) Alone) []
parts_are ds x =
    ap (λ s. unwrap_or (stmt_depths ds s) []) (sym (bare_stmt_is x)) ∙ ap (λ o. unwrap_or o []) (sym (alone ds (bare_stmt x)))

pub ruleset parts = (parts_are)

-- ---- one nest

pub nest_one : (d : PlacedPlan) (at : ℕ) (ks : List ℕ) (k : ℕ) → length ks ≡ 1 → k ≡ get_or ks 0 0 → nest_breaches d at ks ≡ plan_breaches d k
nest_one d at [] k one is = absurd (omega (arith, one))
nest_one d at (j ∷ []) k one is = ap (plan_breaches d) (sym is)
nest_one d at (j ∷ i ∷ ks) k one is = absurd (omega (arith, one))

pub nest_other : (d : PlacedPlan) (at : ℕ) (ks : List ℕ) → length ks ≢ 1 → nest_breaches d at ks ≡ breach L21 at
nest_other d at [] other = refl
nest_other d at (k ∷ []) other = absurd (other refl)
nest_other d at (k ∷ j ∷ ks) other = refl

pub ruleset nests = (nest_one, nest_other)

module _ (ds : List Define) (d : PlacedPlan) (at : ℕ) where
  pub one_none : (xs : List Stmt) → length xs ≡ 0 → one_loop_breaches ds d at (map placed_stmt xs) ≡ breach L1 at
  one_none [] none = refl
  one_none (x ∷ xs) none = absurd (omega (arith, none))

  pub one_several : (xs : List Stmt) (x : Stmt) → length xs ≢ 0 → length xs ≢ 1 → x ≡ slice_index_or xs 0 x
      → least (one_loop_breaches ds d at (map placed_stmt xs)) ≡ lesser (least (breach_if (not (is_loop (placed_stmt x))) L1 (stmt_span (placed_stmt x)).start)) (least (breach L21 at))
  one_several [] x some other is = absurd (some refl)
  one_several (y ∷ []) x some other is = absurd (other refl)
  one_several (y ∷ z ∷ xs) x some other is = ap (λ s. lesser (least (breach_if (not (is_loop (placed_stmt s))) L1 (stmt_span (placed_stmt s)).start)) (least (breach L21 at))) (sym is)

  one_single : (xs : List Stmt) (x : Stmt) → length xs ≡ 1 → x ≡ slice_index_or xs 0 x
      → one_loop_breaches ds d at (map placed_stmt xs) ≡ (if is_loop (placed_stmt x) then nest_breaches d at (parts_of ds (placed_stmt x)) else breach L1 (stmt_span (placed_stmt x)).start)
  one_single [] x one is = absurd (omega (arith, one))
  one_single (y ∷ []) x one is = ap (λ s. if is_loop (placed_stmt s) then nest_breaches d at (parts_of ds (placed_stmt s)) else breach L1 (stmt_span (placed_stmt s)).start) (sym is)
  one_single (y ∷ z ∷ xs) x one is = absurd (omega (arith, one))

  pub one_unlike : (xs : List Stmt) (x : Stmt) → length xs ≡ 1 → x ≡ slice_index_or xs 0 x → is_loop (placed_stmt x) ≡ false
      → one_loop_breaches ds d at (map placed_stmt xs) ≡ breach L1 (stmt_span (placed_stmt x)).start
  one_unlike xs x one is unlike =
      one_single xs x one is ∙ ap (λ b. if b then nest_breaches d at (parts_of ds (placed_stmt x)) else breach L1 (stmt_span (placed_stmt x)).start) unlike

  pub one_like : (xs : List Stmt) (x : Stmt) → length xs ≡ 1 → x ≡ slice_index_or xs 0 x → is_loop (placed_stmt x) ≡ true
      → one_loop_breaches ds d at (map placed_stmt xs) ≡ nest_breaches d at (parts_of ds (placed_stmt x))
  one_like xs x one is like =
      one_single xs x one is ∙ ap (λ b. if b then nest_breaches d at (parts_of ds (placed_stmt x)) else breach L1 (stmt_span (placed_stmt x)).start) like

  pub loops_none : (cs : p.Clauses) (xs : List Stmt) → length xs ≡ 0 → loops_breaches ds d at cs (map placed_stmt xs) ≡ breach L1 at
  loops_none cs [] none = refl
  loops_none cs (x ∷ xs) none = absurd (omega (arith, none))

  pub loops_first : (cs : p.Clauses) (xs : List Stmt) (b : LoopBreach) → length xs ≢ 0 → least (member_breaches (map placed_stmt xs)) ≡ Some b
      → least (loops_breaches ds d at cs (map placed_stmt xs)) ≡ Some b
  loops_first cs [] b some is = absurd (some refl)
  loops_first cs (x ∷ xs) b some is =
      else_first (member_breaches (map placed_stmt (x ∷ xs))) (sequence_breaches d (range_place at cs) (parts_of_all ds (map placed_stmt (x ∷ xs)))) b is

  pub loops_second : (cs : p.Clauses) (xs : List Stmt) → length xs ≢ 0 → least (member_breaches (map placed_stmt xs)) ≡ None
      → least (loops_breaches ds d at cs (map placed_stmt xs)) ≡ least (sequence_breaches d (range_place at cs) (parts_of_all ds (map placed_stmt xs)))
  loops_second cs [] some is = absurd (some refl)
  loops_second cs (x ∷ xs) some is =
      else_second (member_breaches (map placed_stmt (x ∷ xs))) (sequence_breaches d (range_place at cs) (parts_of_all ds (map placed_stmt (x ∷ xs)))) is

pub ruleset one_loop = (one_none, one_several, one_unlike, one_like, loops_none, loops_first, loops_second, single_good)

-- ---- the place of a range

range_step : (at : ℕ) (c : p.ClauseKind) (s : Span) (cs : p.Clauses) → range_place at (more_clauses (clause c s) cs) ≡ (if is_range c then s.start else range_place at cs)
range_step at (p.looprange a b) s cs = refl
range_step at (p.sizes es) s cs = refl
range_step at (p.permutation es) s cs = refl
range_step at (p.counts ks) s cs = refl
range_step at p.full s cs = refl
range_step at (p.partial f) s cs = refl
range_step at (p.apply m es is) s cs = refl

pub range_more : (at : ℕ) (xs : List Clause) (i : ℕ) (x : Clause) → i < length xs → x ≡ slice_index_or xs i x
    → range_place at (placed_clauses (drop i xs)) ≡ (if is_range (placed_kind (out-Clause x).kind) then (out-Clause x).span.start else range_place at (placed_clauses (drop (i + 1) xs)))
range_more at xs i x within is =
    rest_more (λ ys. range_place at (placed_clauses ys)) xs i x within is
    ∙ (ap (λ c. range_place at (more_clauses c (placed_clauses (drop (i + 1) xs)))) (placed_clause_out x)
    ∙ range_step at (placed_kind (out-Clause x).kind) (out-Clause x).span (placed_clauses (drop (i + 1) xs)))

pub range_end : (at : ℕ) (xs : List Clause) (i : ℕ) → length xs ≤ i → range_place at (placed_clauses (drop i xs)) ≡ at
range_end at xs i = rest_none (λ ys. range_place at (placed_clauses ys)) xs i

pub ruleset ranges = (range_more, range_end)

-- ---- a sequence

module _ (d : Plan) (range : ℕ) (ks : List ℕ) where
  abbrev own : t.Transformation
  own = seen_transformation (out-Plan d).transformation

  abbrev over : PlacedItems
  over = gather (map seen_item (out-Plan d).items)

  abbrev broken : BreachSet
  broken = breach_if (list_any (λ k. k == 0) ks) L22 (out-Plan d).place & breach_if (not (ends_within own (length ks))) L19 range

  pub sequence_first : (b : LoopBreach)
      → lesser (least (breach_if (list_any (λ k. k == 0) ks) L22 (out-Plan d).place)) (least (breach_if (not (ends_within own (length ks))) L19 range)) ≡ Some b
      → least (sequence_breaches (seen_plan d) range ks) ≡ Some b
  sequence_first b is = ap (λ e. least (sequence_breaches e range ks)) (seen_plan_out d) ∙ else_first broken (items_breaches own over (transformed_depths own ks)) b is

  pub sequence_second :
      lesser (least (breach_if (list_any (λ k. k == 0) ks) L22 (out-Plan d).place)) (least (breach_if (not (ends_within own (length ks))) L19 range)) ≡ None
      → least (sequence_breaches (seen_plan d) range ks) ≡ least (items_breaches own over (transformed_depths own ks))
  sequence_second is = ap (λ e. least (sequence_breaches e range ks)) (seen_plan_out d) ∙ else_second broken (items_breaches own over (transformed_depths own ks)) is

pub ruleset sequences = (sequence_first, sequence_second)

-- ---- a body

pub all_fuse : (k : Kind) → finds_all k ≡ true → k ≡ Fuse
all_fuse Fuse is = refl
all_fuse Tile is = absurd (false≢true is)
all_fuse Unroll is = absurd (false≢true is)
all_fuse Interchange is = absurd (false≢true is)
all_fuse Reverse is = absurd (false≢true is)
all_fuse Split is = absurd (false≢true is)

body_of_fuse : (ds : List Define) (k : Kind) (cs : p.Clauses) (s : Span) (a : p.Stmts) → k ≡ Fuse
    → body_breaches ds (directive k cs s) a ≡ loops_breaches ds (placed_plan ds (directive k cs s)) s.start cs (unwrapped a)
body_of_fuse ds Fuse cs s a is = refl
body_of_fuse ds Tile cs s a is = absurd (cc)
body_of_fuse ds Unroll cs s a is = absurd (cc)
body_of_fuse ds Interchange cs s a is = absurd (cc)
body_of_fuse ds Reverse cs s a is = absurd (cc)
body_of_fuse ds Split cs s a is = absurd (cc)

body_of_other : (ds : List Define) (k : Kind) (cs : p.Clauses) (s : Span) (a : p.Stmts) → (k ≡ Fuse → ⊥)
    → body_breaches ds (directive k cs s) a ≡ one_loop_breaches ds (placed_plan ds (directive k cs s)) s.start (unwrapped a)
body_of_other ds Fuse cs s a other = absurd (other refl)
body_of_other ds Tile cs s a other = refl
body_of_other ds Unroll cs s a other = refl
body_of_other ds Interchange cs s a other = refl
body_of_other ds Reverse cs s a other = refl
body_of_other ds Split cs s a other = refl

module _ (ds : List Define) (x : Directive) (a : p.Stmts) (e : PlacedPlan) (ss : List p.Stmt) (e_is : e ≡ placed_plan ds (placed_directive x)) (ss_are : ss ≡ unwrapped a) where
  pub body_fuse : (out-Directive x).kind ≡ Fuse
      → body_breaches ds (placed_directive x) a ≡ loops_breaches ds e (out-Directive x).span.start (placed_clauses (out-Directive x).clauses) ss
  body_fuse is =
      ap (λ d. body_breaches ds d a) (placed_directive_out x)
      ∙ (body_of_fuse ds (out-Directive x).kind (placed_clauses (out-Directive x).clauses) (out-Directive x).span a is
      ∙ (ap (λ d. loops_breaches ds (placed_plan ds d) (out-Directive x).span.start (placed_clauses (out-Directive x).clauses) (unwrapped a)) (sym (placed_directive_out x))
      ∙ (ap (λ d. loops_breaches ds d (out-Directive x).span.start (placed_clauses (out-Directive x).clauses) (unwrapped a)) (sym e_is)
      ∙ ap (loops_breaches ds e (out-Directive x).span.start (placed_clauses (out-Directive x).clauses)) (sym ss_are))))

  pub body_other : ((out-Directive x).kind ≡ Fuse → ⊥)
      → body_breaches ds (placed_directive x) a ≡ one_loop_breaches ds e (out-Directive x).span.start ss
  body_other other =
      ap (λ d. body_breaches ds d a) (placed_directive_out x)
      ∙ (body_of_other ds (out-Directive x).kind (placed_clauses (out-Directive x).clauses) (out-Directive x).span a other
      ∙ (ap (λ d. one_loop_breaches ds (placed_plan ds d) (out-Directive x).span.start (unwrapped a)) (sym (placed_directive_out x))
      ∙ (ap (λ d. one_loop_breaches ds d (out-Directive x).span.start (unwrapped a)) (sym e_is)
      ∙ ap (one_loop_breaches ds e (out-Directive x).span.start) (sym ss_are))))

pub ruleset whole = (directive_held)
