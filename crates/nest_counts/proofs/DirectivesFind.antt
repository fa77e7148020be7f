-- A directive of a construct finds what it takes in the loops of its body, and gives parts as many and as deep as its
-- depths say.
use Rattle.std.proofs.Common.{◌≡◌, refl, sym, ap, ◌∙◌, subst, ℕ, ◌<◌, ◌≤◌, List, [], ◌∷◌, length, Option, Some, true, ◌⊎◌, arith}
use Rattle.c_tree.specs.Placed.{Stmt, Stmts, Directive, directive, Clauses}
use Rattle.c_tree.specs.Forget.{forget_stmt, forget_stmts, forget_clauses, forget_directive}
use Rattle.c_tree.specs.WellFormed.{WellFormedDirective}
use Rattle.c_tree.specs.declared.tree.Kind.TheVariants.{Tile, Unroll, Interchange, Reverse, Split, Fuse}
use Rattle.c_semantics.specs.Meaning.State.{State}
use Rattle.c_semantics.specs.Meaning.Expressions.{Define}
use Rattle.c_semantics.specs.Loops.Transformations.{Plan, none_applied, fuse}
use Rattle.c_semantics.specs.Loops.Directives.{plan_of, clauses_items, range_in, sizes_in}
use Rattle.c_semantics.specs.Loops.Need.{all_at_least, if_some, transformed_depths, depths, applied_depths, loops_asked}
use Rattle.c_semantics.specs.Loops.StatementDepths.{single_depths, member_depths}
use Rattle.canonical_nests.specs.Kinds.{Part, plan_kinds}
use Rattle.canonical_nests.specs.Shapes.{stmt_kinds, single_kinds, member_kinds, body_kinds}
use Rattle.canonical_nests.specs.LoopRules.BreachSets.{HasNone}
use Rattle.canonical_nests.specs.LoopRules.PlacedPlans as placed
use Rattle.canonical_nests.specs.LoopRules.PlacedPlans.{PlacedItems, placed_plan}
use Rattle.canonical_nests.specs.LoopRules.Clauses as clauses
use Rattle.canonical_nests.specs.LoopRules.Structure as structure
use Rattle.canonical_nests.specs.LoopRules.Structure.{unwrapped, one_loop_breaches, loops_breaches}
use Rattle.canonical_nests.specs.LoopRules.Counts as counts
use Rattle.canonical_nests.proofs.ForgottenPlans.{plan_is}
use Rattle.nest_counts.specs.Found.{ArgumentsFit, IsNoFuse, HaveLoops}
use Rattle.nest_counts.specs.Plans.{Finds}
use Rattle.nest_counts.specs.Statements.{StmtFinds, SingleFinds, MembersFind, DirectiveFinds, StmtSaysAlike, StmtsSayAlike}
use Rattle.nest_counts.proofs.Arguments.{arguments_of_rules_fit, is_other}
use Rattle.nest_counts.proofs.Asked.{asked_loops_suffice}
use Rattle.nest_counts.proofs.BodyFinds.{FindsAndGives, one_found, all_found}
use Rattle.nest_counts.proofs.Found.{enough_loops}
use Rattle.nest_counts.proofs.LoopDepths.{directive_depths, fuse_asks_one, one_body, sequence_body, unwrapped_give}
use Rattle.nest_counts.proofs.Structured.{sequence_ends}
use Rattle.nest_counts.proofs.Taken.{takes_some, asks_some}

module _ (ds : List Define) (s : State) where
  -- ---- what is shown by induction

  -- of a statement of which m loops are wanted, and which gives parts of these depths
  abbrev pub StmtHas : State → ℕ → Stmt → List ℕ → Type 0
  StmtHas scope m a es =
      (StmtSaysAlike ds s scope m (forget_stmt a) → StmtFinds ds s scope m (forget_stmt a)) × HaveLoops m (length es) (stmt_kinds ds scope m (forget_stmt a))

  abbrev pub SingleHas : State → ℕ → Stmts → List ℕ → Type 0
  SingleHas scope m a es =
      (StmtsSayAlike ds s scope m (forget_stmts a) → SingleFinds ds s scope m (forget_stmts a)) × HaveLoops m (length es) (single_kinds ds scope m (forget_stmts a))

  abbrev pub MembersHave : State → ℕ → Stmts → List ℕ → Type 0
  MembersHave scope m a es =
      (StmtsSayAlike ds s scope m (forget_stmts a) → MembersFind ds s scope m (forget_stmts a)) × HaveLoops m (length es) (member_kinds ds scope m (forget_stmts a))

  -- ---- a directive

  abbrev pub asked : Directive → ℕ → ℕ
  asked d m = loops_asked (plan_of ds (forget_directive d)) m

  -- it and what it takes break no rule
  pub record Passes (scope : State) (m : ℕ) (d : Directive) (a : Stmts) : Type 0 where
    pub formed : WellFormedDirective (forget_directive d)
    pub clauses : HasNone (clauses.directive_breaches ds d)
    pub inner : HasNone (structure.stmts_breaches ds (asked d m) a)
    pub body : HasNone (structure.body_breaches ds d a)
    pub counts : HasNone (counts.directive_breaches ds scope (asked d m) d a)

  -- what the induction gives of its body, where so many loops are wanted
  abbrev pub OneServes : State → ℕ → Stmts → Type 0
  OneServes scope n a = (k : ℕ) → 0 < n → single_depths ds (forget_stmts a) ≡ Some (k ∷ []) → n ≤ k → SingleHas scope n a (k ∷ [])

  abbrev pub AllServe : State → ℕ → Stmts → Type 0
  AllServe scope n a = (ks : List ℕ) → n ≡ 1 → member_depths ds (forget_stmts a) ≡ Some ks → all_at_least n ks ≡ true → MembersHave scope n a ks

  abbrev pub DirectiveHas : State → ℕ → Directive → Stmts → List ℕ → Type 0
  DirectiveHas scope m d a es =
      (StmtsSayAlike ds s scope (asked d m) (forget_stmts a) → DirectiveFinds ds scope (asked d m) (forget_directive d) (forget_stmts a) (SingleFinds ds s scope (asked d m) (forget_stmts a)) (MembersFind ds s scope (asked d m) (forget_stmts a)))
      × HaveLoops m (length es) (plan_kinds (plan_of ds (forget_directive d)) 0 (body_kinds ds scope (asked d m) (forget_directive d) (forget_stmts a)))

  -- ---- one nest

  abbrev OneHas : State → ℕ → Directive → Stmts → List ℕ → Type 0
  OneHas scope m d a es =
      let ps : List Part = single_kinds ds scope (asked d m) (forget_stmts a) in
      (StmtsSayAlike ds s scope (asked d m) (forget_stmts a) → (SingleFinds ds s scope (asked d m) (forget_stmts a) × (0 < length ps)) × Finds (plan_of ds (forget_directive d)) 0 ps)
      × HaveLoops m (length es) (plan_kinds (plan_of ds (forget_directive d)) 0 ps)

  one_has : (scope : State) (m : ℕ) (d : Directive) (a : Stmts) (es : List ℕ) (at : ℕ) → IsNoFuse (plan_of ds (forget_directive d)) → WellFormedDirective (forget_directive d)
      → HasNone (clauses.directive_breaches ds d) → HasNone (one_loop_breaches ds (placed_plan ds d) at (unwrapped a))
      → HasNone (counts.plan_breaches (placed_plan ds d) 0 (single_kinds ds scope (asked d m) (forget_stmts a)))
      → OneServes scope (asked d m) a → if_some (single_depths ds (forget_stmts a)) (depths (plan_of ds (forget_directive d))) ≡ Some es → all_at_least m es ≡ true → OneHas scope m d a es
  one_has scope m d a es at other formed clauses body counts serves e deep =
      let p : Plan = plan_of ds (forget_directive d) in
      let n : ℕ = asked d m in
      let ps : List Part = single_kinds ds scope n (forget_stmts a) in
      let fit : ArgumentsFit p = arguments_of_rules_fit ds d clauses in
      let some : 0 < n = asks_some p m (takes_some ds d formed clauses fit) in
      let q = one_body ds (placed_plan ds d) at a body in
      let k : ℕ = q.0 in
      let over : depths p (k ∷ []) ≡ Some es = ap (λ o. if_some o (depths p)) (sym q.1.0) ∙ e in
      let r = serves k some q.1.0 (asked_loops_suffice p m k k es other over deep).0 in
      let f : FindsAndGives p m (length es) ps = one_found (placed_plan ds d) p m k es ps (plan_is ds d) other fit over deep r.1 counts in
      let many : length ps ≡ 1 = r.1.0 in
      ((λ alike. ((r.0 alike, omega arith), f.0)), f.1)

  -- ---- a sequence

  all_has : (scope : State) (m : ℕ) (cs : Clauses) (d : Directive) (a : Stmts) (es : List ℕ) (r : Option (ℕ × ℕ)) (at : ℕ) (w : PlacedItems) → placed.plan (fuse r) at w ≡ placed_plan ds d → asked d m ≡ 1
      → HasNone (clauses.directive_breaches ds d) → HasNone (structure.stmts_breaches ds (asked d m) a) → HasNone (loops_breaches ds (placed.plan (fuse r) at w) at cs (unwrapped a))
      → HasNone (counts.plan_breaches (placed.plan (fuse r) at w) 0 (member_kinds ds scope (asked d m) (forget_stmts a)))
      → AllServe scope (asked d m) a → if_some (member_depths ds (forget_stmts a)) (depths (plan_of ds (forget_directive d))) ≡ Some es → all_at_least m es ≡ true → (m ≤ 1) ⊎ (length es ≡ 1)
      → (StmtsSayAlike ds s scope (asked d m) (forget_stmts a) → MembersFind ds s scope (asked d m) (forget_stmts a) × Finds (plan_of ds (forget_directive d)) 0 (member_kinds ds scope (asked d m) (forget_stmts a)))
      × HaveLoops m (length es) (plan_kinds (plan_of ds (forget_directive d)) 0 (member_kinds ds scope (asked d m) (forget_stmts a)))
  all_has scope m cs d a es r at w is one clauses inner body counts serves e deep few =
      let p : Plan = plan_of ds (forget_directive d) in
      let n : ℕ = asked d m in
      let ps : List Part = member_kinds ds scope n (forget_stmts a) in
      let same : placed.forget_plan (placed.plan (fuse r) at w) ≡ p = ap placed.forget_plan is ∙ plan_is ds d in
      let q = sequence_body ds r at w cs a (unwrapped_give ds 0 a (subst (λ n. HasNone (structure.stmts_breaches ds n a)) one inner)) body in
      let ks : List ℕ = q.0 in
      let over : depths p ks ≡ Some es = ap (λ o. if_some o (depths p)) (sym q.1.0) ∙ e in
      let u = enough_loops (fuse r) ks (applied_depths (fuse r) (placed.forget_items w) (transformed_depths (fuse r) ks)) es (ap (λ x. depths x ks) same ∙ over) in
      let x = serves ks one q.1.0 (ap (λ j. all_at_least j ks) one ∙ u.0) in
      let f : FindsAndGives p m (length es) ps = all_found r at w p m ks es ps same (arguments_of_rules_fit ds d clauses) (sequence_ends r at (structure.range_place at cs) w ks q.1.1) over deep few
      (subst (λ j. HaveLoops j (length ks) ps) one x.1) counts in
      ((λ alike. (x.0 alike, f.0)), f.1)

  -- ---- each kind

  pub directive_has : (scope : State) (m : ℕ) (d : Directive) (a : Stmts) (es : List ℕ) → Passes scope m d a → OneServes scope (asked d m) a → AllServe scope (asked d m) a
      → directive_depths ds d a ≡ Some es → all_at_least m es ≡ true → (m ≤ 1) ⊎ (length es ≡ 1) → DirectiveHas scope m d a es
  directive_has scope m (directive Tile cs at) a es h one all e deep few = one_has scope m (directive Tile cs at) a es at.start (is_other ds (directive Tile cs at) refl) h.formed h.clauses h.body h.counts one e deep
  directive_has scope m (directive Unroll cs at) a es h one all e deep few = one_has scope m (directive Unroll cs at) a es at.start (is_other ds (directive Unroll cs at) refl) h.formed h.clauses h.body h.counts one e deep
  directive_has scope m (directive Interchange cs at) a es h one all e deep few = one_has scope m (directive Interchange cs at) a es at.start (is_other ds (directive Interchange cs at) refl) h.formed h.clauses h.body h.counts one e deep
  directive_has scope m (directive Reverse cs at) a es h one all e deep few = one_has scope m (directive Reverse cs at) a es at.start (is_other ds (directive Reverse cs at) refl) h.formed h.clauses h.body h.counts one e deep
  directive_has scope m (directive Split cs at) a es h one all e deep few = one_has scope m (directive Split cs at) a es at.start (is_other ds (directive Split cs at) refl) h.formed h.clauses h.body h.counts one e deep
  directive_has scope m (directive Fuse cs at) a es h one all e deep few =
      let n : ℕ = length (sizes_in (forget_clauses cs)) in
      all_has scope m cs (directive Fuse cs at) a es (range_in ds (forget_clauses cs)) at.start (placed.clauses_items ds n cs placed.none_applied) refl
      (fuse_asks_one ds (range_in ds (forget_clauses cs)) (clauses_items ds n (forget_clauses cs) none_applied) m) h.clauses h.inner h.body h.counts all e deep few
