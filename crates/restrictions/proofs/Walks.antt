-- The breaches in a statement by what it is, and in a list of statements.
use Rattle.std.proofs.Common.{◌≡◌, ◌∙◌, refl, sym, ap, ◌<◌, ◌≤◌, ◌+◌, ◌-◌, ◌≢◌, ℕ, zero, suc, List, length, drop, slice_index_or, Option, Some, None, arith}
use Rattle.c_tree.specs.BareOf.{bare_stmt}
use Rattle.c_tree.specs.Placed as p
use Rattle.c_tree.specs.PlacedOf.{stmt_layer, head_layer, placed_stmt, placed_stmts}
use Rattle.c_tree.specs.Forget.{forget_directive}
use Rattle.c_tree.specs.declared.tree.Expr.{Expr}
use Rattle.c_tree.specs.declared.tree.Span.{Span}
use Rattle.c_tree.specs.declared.tree.Stmt.{Stmt, fold-roll-Stmt}
use Rattle.c_tree.specs.declared.tree.Stmt.TheVariants as v
use Rattle.c_tree.specs.declared.tree.Stmt.TheOpen as open'
use Rattle.c_tree.proofs.Forgotten.Stmts.{bare_stmt_is}
use Rattle.c_tree.proofs.Walks.{rest_more, rest_none}
use Rattle.c_semantics.specs.Meaning.State.{State}
use Rattle.c_semantics.specs.Meaning.Expressions.{Define}
use Rattle.c_semantics.specs.Meaning.FileVariables.{FunctionAccess}
use Rattle.c_semantics.specs.Loops.Directives.{plan_of}
use Rattle.c_semantics.specs.Loops.Need.{loops_asked}
use Rattle.c_semantics.specs.Structure.Skeleton.{scope_after}
use Rattle.canonical_nests.specs.declared.rules.LoopBreach.{LoopBreach}
use Rattle.canonical_nests.specs.LoopRules.BreachSets.{◌&◌, lesser, least}
use Rattle.canonical_nests.specs.LoopRules.Programs.{construct_breaches, stmt_breaches, stmts_breaches}
use Rattle.canonical_nests.proofs.HeldTrees.{good_more}
use Rattle.canonical_nests.proofs.Order.{lesser_joins, lesser_none}
use Rattle.restrictions.specs.Walks.{for_state, own_breaches}
use Rattle.restrictions.proofs.Visibility.{keep_whole}

module _ (ds : List Define) (fs : List FunctionAccess) (s : State) where
  pub at_loop : (m : ℕ) (h : p.Head) (a : p.Stmts) (span : Span) → stmt_breaches ds fs s m (p.for_ h a span) ≡ stmts_breaches ds fs (for_state ds s m h) (m - 1) a
  at_loop zero h a span = refl
  at_loop (suc m) h a span = let e : m ≡ suc m - 1 = omega arith in ap (λ n. stmts_breaches ds fs (for_state ds s (suc m) h) n a) e

  pub at_directive : (m : ℕ) (d : p.Directive) (a : p.Stmts) (span : Span)
      → least (stmt_breaches ds fs s m (p.omp d a span)) ≡ lesser (least (own_breaches ds fs s m d a)) (least (stmts_breaches ds fs s (loops_asked (plan_of ds (forget_directive d)) m) a))
  at_directive zero d a span = refl
  at_directive (suc m) d a span = refl

  pub own_there : (m : ℕ) (d : p.Directive) (a : p.Stmts) → m ≡ 0 → own_breaches ds fs s m d a ≡ construct_breaches ds fs s d a
  own_there m d a is = ap (λ n. own_breaches ds fs s n d a) is

  pub own_none : (m : ℕ) (d : p.Directive) (a : p.Stmts) → m ≢ 0 → least (own_breaches ds fs s m d a) ≡ None
  own_none zero d a some = absurd (some refl)
  own_none (suc m) d a some = refl

  pub list_more : (m : ℕ) (xs : List Stmt) (i : ℕ) (x : Stmt) → i < length xs → x ≡ slice_index_or xs i x
      → least (stmts_breaches ds fs s m (placed_stmts (drop i xs)))
      ≡ lesser (least (stmt_breaches ds fs s m (placed_stmt x))) (least (stmts_breaches ds fs (scope_after (bare_stmt x) s) m (placed_stmts (drop (i + 1) xs))))
  list_more m xs i x within is =
      rest_more (λ ys. least (stmts_breaches ds fs s m (placed_stmts ys))) xs i x within is
      ∙ ap (λ a. lesser (least (stmt_breaches ds fs s m (placed_stmt x))) (least (stmts_breaches ds fs (scope_after a s) m (placed_stmts (drop (i + 1) xs))))) (sym (bare_stmt_is x))

  pub list_end : (m : ℕ) (xs : List Stmt) (i : ℕ) → length xs ≤ i → least (stmts_breaches ds fs s m (placed_stmts (drop i xs))) ≡ None
  list_end m xs i = rest_none (λ ys. least (stmts_breaches ds fs s m (placed_stmts ys))) xs i

-- one statement more: found before it, here in it
pub list_step : (ds ds0 : List Define) (fs : List FunctionAccess) (s s2 : State) (m : ℕ) (xs : List Stmt) (i : ℕ) (x : Stmt) (found here new total : Option LoopBreach)
    → i < length xs → x ≡ slice_index_or xs i x → ds ≡ ds0 → here ≡ least (stmt_breaches ds fs s m (placed_stmt x)) → new ≡ lesser found here → s2 ≡ scope_after (bare_stmt x) s
    → lesser found (least (stmts_breaches ds0 fs s m (placed_stmts (drop i xs)))) ≡ total
    → lesser new (least (stmts_breaches ds0 fs s2 m (placed_stmts (drop (i + 1) xs)))) ≡ total
list_step ds ds0 fs s s2 m xs i x found here new total within is known here_is new_is s2_is all =
    let rest = λ (u : State). least (stmts_breaches ds0 fs u m (placed_stmts (drop (i + 1) xs))) in
    let there : here ≡ least (stmt_breaches ds0 fs s m (placed_stmt x)) = here_is ∙ ap (λ e. least (stmt_breaches e fs s m (placed_stmt x))) known in
    ap (λ o. lesser o (rest s2)) new_is
    ∙ (ap (λ u. lesser (lesser found here) (rest u)) s2_is
    ∙ (ap (λ o. lesser (lesser found o) (rest (scope_after (bare_stmt x) s))) there
    ∙ (lesser_joins found (least (stmt_breaches ds0 fs s m (placed_stmt x))) (rest (scope_after (bare_stmt x) s))
    ∙ (ap (lesser found) (sym (list_more ds0 fs s m xs i x within is)) ∙ all))))

-- the branches of an `if`
pub at_both : (ds : List Define) (fs : List FunctionAccess) (s : State) (m : ℕ) (stmt : Stmt) (e : Expr) (xs ys : List Stmt) (o : Option (List Stmt)) (at : Span)
    → stmt ≡ v.If e xs o at → o ≡ Some ys
    → stmt_breaches ds fs s m (placed_stmt stmt) ≡ stmts_breaches ds fs s 0 (placed_stmts xs) & stmts_breaches ds fs s 0 (placed_stmts ys)
at_both ds fs s m stmt e xs ys o at is some =
    let f = λ (x : p.Stmt). stmt_breaches ds fs s m x in
    ap (λ x. f (placed_stmt x)) is
    ∙ (ap (λ o'. f (placed_stmt (v.If e xs o' at))) some
    ∙ (ap (λ x. f (placed_stmt x)) (sym (v.rolls-If e xs (Some ys) at))
    ∙ ap f (fold-roll-Stmt p.Stmt p.Head stmt_layer head_layer (open'.If e xs (Some ys) at))))

pub ruleset own = (own_there, own_none)

pub ruleset kinds = (at_loop, at_directive)

pub ruleset lists = (list_more, list_end, good_more, keep_whole, lesser_joins, lesser_none)
