-- The breaches of the rules of counts in a statement by what it is, and in a construct.
use Rattle.std.proofs.Common.{◌≡◌, ◌∙◌, refl, sym, ap, ◌<◌, ◌≤◌, ◌+◌, ◌-◌, ℕ, zero, suc, List, length, drop, slice_index_or, Option, None, arith}
use Rattle.c_tree.specs.Placed.{Stmt, decl, set, step, print, input, if_, if_else, while_, do_, for_, block, break_, continue_, empty, omp, call, head}
use Rattle.c_tree.specs.Bare as b
use Rattle.c_tree.specs.BareOf.{bare_directive, bare_head, bare_stmts, item_layer, kind_layer, clause_layer, directive_layer}
use Rattle.c_tree.specs.PlacedOf.{placed_directive, placed_head, placed_stmt, placed_stmts}
use Rattle.c_tree.specs.Forget.{forget_directive, forget_head, forget_stmts}
use Rattle.c_tree.specs.declared.tree.Stmt as code
use Rattle.c_tree.specs.declared.tree.Directive.{Directive, roll-Directive, out-Directive, roll-out-Directive, fold-roll-Directive}
use Rattle.c_tree.specs.declared.tree.Clause.{Clause}
use Rattle.c_tree.specs.declared.tree.Kind.{Kind}
use Rattle.c_tree.specs.declared.tree.Span.{Span}
use Rattle.c_semantics.specs.Loops.StatementDepths.{kind_of}
use Rattle.c_tree.specs.declared.tree.ForHead.{ForHead}
use Rattle.c_tree.proofs.Forgotten.Directives.{bare_directive_is}
use Rattle.c_tree.proofs.Forgotten.Stmts.{bare_head_is, bare_stmts_is}
use Rattle.c_tree.proofs.Walks.{rest_more, rest_none}
use Rattle.c_semantics.specs.Meaning.State.{State}
use Rattle.c_semantics.specs.Meaning.Expressions.{Define}
use Rattle.c_semantics.specs.Loops.Directives.{plan_of}
use Rattle.c_semantics.specs.Loops.Need.{loops_asked}
use Rattle.canonical_nests.specs.Kinds.{Part}
use Rattle.canonical_nests.specs.Shapes.{body_kinds}
use Rattle.canonical_nests.specs.LoopRules.PlacedPlans.{PlacedPlan, placed_plan}
use Rattle.canonical_nests.specs.LoopRules.BreachSets.{least, lesser}
use Rattle.canonical_nests.specs.LoopRules.Counts.{plan_breaches, directive_breaches, stmt_breaches, stmts_breaches}
use Rattle.canonical_nests.specs.declared.rules.LoopBreach.{LoopBreach}
use Rattle.canonical_nests.proofs.Order.{lesser_joins, lesser_none}
use Rattle.loop_counts.specs.Wanted.{in_head}
use Rattle.loop_counts.specs.WantedBreaches.{construct_at, wanted_breaches}

module _ (ds : List Define) (s : State) where
  pub none_wanted : (m : ℕ) (a : Stmt) → m ≡ 0 → least (stmt_breaches ds s m a) ≡ None
  none_wanted m a e = ap (λ n. least (stmt_breaches ds s n a)) e

  one_less : (m : ℕ) → m ≡ suc m - 1
  one_less m = omega arith

  pub some_wanted : (m : ℕ) (a : Stmt) → 0 < m → stmt_breaches ds s m a ≡ wanted_breaches ds s m a
  some_wanted zero a lt = absurd (omega (arith, lt))
  some_wanted (suc m) (decl t x at e span) lt = refl
  some_wanted (suc m) (set t o e span) lt = refl
  some_wanted (suc m) (step t up span) lt = refl
  some_wanted (suc m) (print e span) lt = refl
  some_wanted (suc m) (input t at span) lt = refl
  some_wanted (suc m) (if_ e a span) lt = refl
  some_wanted (suc m) (if_else e a c span) lt = refl
  some_wanted (suc m) (while_ e a span) lt = refl
  some_wanted (suc m) (do_ a e span) lt = refl
  some_wanted (suc m) (for_ (head i i_at e e_at next next_at) a span) lt =
      ap (λ n. stmts_breaches ds (in_head (forget_head (head i i_at e e_at next next_at)) s) n a) (one_less m)
  some_wanted (suc m) (block a span) lt = refl
  some_wanted (suc m) (break_ span) lt = refl
  some_wanted (suc m) (continue_ span) lt = refl
  some_wanted (suc m) (empty span) lt = refl
  some_wanted (suc m) (omp d a span) lt = refl
  some_wanted (suc m) (call f at es span) lt = refl

  pub stmts_more : (m : ℕ) (xs : List code.Stmt) (i : ℕ) (x : code.Stmt) → i < length xs → x ≡ slice_index_or xs i x
      → least (stmts_breaches ds s m (placed_stmts (drop i xs))) ≡ lesser (least (stmt_breaches ds s m (placed_stmt x))) (least (stmts_breaches ds s m (placed_stmts (drop (i + 1) xs))))
  stmts_more m xs i = rest_more (λ ys. least (stmts_breaches ds s m (placed_stmts ys))) xs i

  pub stmts_end : (m : ℕ) (xs : List code.Stmt) (i : ℕ) → length xs ≤ i → least (stmts_breaches ds s m (placed_stmts (drop i xs))) ≡ None
  stmts_end m xs i = rest_none (λ ys. least (stmts_breaches ds s m (placed_stmts ys))) xs i

  pub construct_is : (m n : ℕ) (d : Directive) (body : List code.Stmt) (p : PlacedPlan) (found : List Part) (own inner : Option LoopBreach)
      → p ≡ placed_plan ds (placed_directive d) → n ≡ loops_asked (plan_of ds (bare_directive d)) m
      → found ≡ body_kinds ds s n (bare_directive d) (bare_stmts body)
      → own ≡ least (plan_breaches p 0 found) → inner ≡ least (stmts_breaches ds s n (placed_stmts body))
      → lesser own inner ≡ least (construct_at ds s m (placed_directive d) (placed_stmts body))
  construct_is m n d body p found own inner p_is n_is found_is own_is inner_is =
      let d_is : bare_directive d ≡ forget_directive (placed_directive d) = bare_directive_is d in
      let asked : n ≡ loops_asked (plan_of ds (forget_directive (placed_directive d))) m = n_is ∙ ap (λ e. loops_asked (plan_of ds e) m) d_is in
      let found_at : found ≡ body_kinds ds s n (forget_directive (placed_directive d)) (forget_stmts (placed_stmts body)) =
      found_is ∙ (λ j. body_kinds ds s n (d_is j) (bare_stmts_is body j)) in
      let own_at : own ≡ least (directive_breaches ds s n (placed_directive d) (placed_stmts body)) =
      own_is ∙ (λ j. least (plan_breaches (p_is j) 0 (found_at j))) in
      (λ j. lesser (own_at j) (inner_is j))
      ∙ ap (λ k. lesser (least (directive_breaches ds s k (placed_directive d) (placed_stmts body))) (least (stmts_breaches ds s k (placed_stmts body)))) asked

kind_roll : (k : Kind) (cs : List Clause) (span : Span) → kind_of (bare_directive (roll-Directive (record { kind = k; clauses = cs; span = span }))) ≡ k
kind_roll k cs span = ap kind_of (fold-roll-Directive b.Item b.Clause b.Clause b.Directive item_layer kind_layer clause_layer directive_layer (record { kind = k; clauses = cs; span = span }))

pub kind_is : (d : Directive) → kind_of (bare_directive d) ≡ (out-Directive d).kind
kind_is d = ap (λ e. kind_of (bare_directive e)) (sym (roll-out-Directive d)) ∙ kind_roll (out-Directive d).kind (out-Directive d).clauses (out-Directive d).span

pub in_head_is : (h : ForHead) (s : State) → in_head (forget_head (placed_head h)) s ≡ in_head (bare_head h) s
in_head_is h s = ap (λ g. in_head g s) (sym (bare_head_is h))

pub ruleset wanted = (none_wanted, some_wanted)

pub ruleset heads = (in_head_is)

pub ruleset stmts = (stmts_more, stmts_end, lesser_joins, lesser_none)
