-- What is visible while statements are passed, and the weight of those that are left.
use Rattle.std.proofs.Common.{◌≡◌, ◌∙◌, refl, sym, ap, subst, min, ◌<◌, ◌≤◌, ◌+◌, ◌-◌, ℕ, zero, suc, List, ◌∷◌, length, drop, slice_index_or, arith}
use Rattle.std.specs.Prelude.{None}
use Rattle.c_tree.specs.Bare.{Stmt, decl, set, step, print, input, if_, if_else, while_, do_, for_, block, break_, continue_, empty, omp, call, Stmts, Head, head}
use Rattle.c_tree.specs.BareOf.{bare_stmt, bare_stmts}
use Rattle.c_tree.specs.declared.tree.Stmt as code
use Rattle.c_tree.proofs.Walks.{rest_more}
use Rattle.c_semantics.specs.Meaning.State.{State, Var, scalar, with_frame, keep}
use Rattle.c_semantics.specs.Meaning.Expressions.{Define}
use Rattle.c_semantics.specs.Structure.Skeleton.{scope_after}
use Rattle.canonical_nests.specs.Weight.{stmt_weight, stmts_weight, asked_below}
use Rattle.loop_counts.specs.Visible.{Visible}
use Rattle.loop_counts.specs.Wanted.{in_head}
use Rattle.loop_weight.specs.Constructs.{head_weight}
use Rattle.loop_counts.proofs.WantedKinds.{well_formed_at}

pub asked_is : (m : ℕ) → asked_below m ≡ m - 1
asked_is zero = refl
asked_is (suc m) = omega arith

pub ruleset asked = (asked_is)

keep_more : (k : ℕ) (v : Var) (vs : List Var) → k ≤ length vs → keep k (v ∷ vs) ≡ keep k vs
keep_more k v vs le = let e : length (v ∷ vs) - k ≡ suc (length vs - k) = omega arith in ap (λ n. drop n (v ∷ vs)) e

pub keep_whole : (k : ℕ) (s : State) → k ≡ length s.frame → with_frame (keep k s.frame) s ≡ s
keep_whole k s e = let none : length s.frame - k ≡ 0 = omega arith in ap (λ n. with_frame (drop n s.frame) s) none

module _ (k : ℕ) (s : State) (le : k ≤ length s.frame) where
  pub kept_after : (a : Stmt) → with_frame (keep k (scope_after a s).frame) (scope_after a s) ≡ with_frame (keep k s.frame) s
  kept_after (decl t x e) = ap (λ f. with_frame f s) (keep_more k (record { name = x; cell = scalar t None }) s.frame le)
  kept_after (set t o e) = refl
  kept_after (step t up) = refl
  kept_after (print e) = refl
  kept_after (input t) = refl
  kept_after (if_ e a) = refl
  kept_after (if_else e a b) = refl
  kept_after (while_ e a) = refl
  kept_after (do_ a e) = refl
  kept_after (for_ h a) = refl
  kept_after (block a) = refl
  kept_after break_ = refl
  kept_after continue_ = refl
  kept_after empty = refl
  kept_after (omp d a) = refl
  kept_after (call f es) = refl

  pub deep_after : (a : Stmt) → k ≤ length (scope_after a s).frame
  deep_after (decl t x e) = omega (arith, le)
  deep_after (set t o e) = le
  deep_after (step t up) = le
  deep_after (print e) = le
  deep_after (input t) = le
  deep_after (if_ e a) = le
  deep_after (if_else e a b) = le
  deep_after (while_ e a) = le
  deep_after (do_ a e) = le
  deep_after (for_ h a) = le
  deep_after (block a) = le
  deep_after break_ = le
  deep_after continue_ = le
  deep_after empty = le
  deep_after (omp d a) = le
  deep_after (call f es) = le

module _ (ds : List Define) (s : State) (m : ℕ) (xs : List code.Stmt) (i : ℕ) where
  pub stmts_more : (x : code.Stmt) → i < length xs → x ≡ slice_index_or xs i x
      → stmts_weight ds s m (bare_stmts (drop i xs)) ≡ stmt_weight ds s m (bare_stmt x) + stmts_weight ds (scope_after (bare_stmt x) s) m (bare_stmts (drop (i + 1) xs))
  stmts_more = rest_more (λ ys. stmts_weight ds s m (bare_stmts ys)) xs i

pub weight_step : (all n new w r t total : ℕ) → new ≡ min (all + n) 1048577 → n ≡ min w 1048577 → t ≡ w + r → min (all + t) 1048577 ≡ total → min (new + r) 1048577 ≡ total
weight_step all n new w r t total new_is n_is t_is all_is = omega arith

-- one statement more: what is visible at the start, before it, after its weight, and after it
module _ (v0 v v1 v2 : Visible) (m : ℕ) (xs : List code.Stmt) (i : ℕ) (x : code.Stmt) (same : v1 ≡ v)
    (after : v2 ≡ record v1 { state = scope_after (bare_stmt x) v1.state }) (known : v.defines ≡ v0.defines) where
  state_is : v2.state ≡ scope_after (bare_stmt x) v.state
  state_is = ap (λ w. w.state) after ∙ ap (λ w. scope_after (bare_stmt x) w.state) same

  pub defines_step : v2.defines ≡ v0.defines
  defines_step = ap (λ w. w.defines) after ∙ (ap (λ w. w.defines) same ∙ known)

  pub all_step : (all n new total : ℕ) → i < length xs → x ≡ slice_index_or xs i x
      → n ≡ min (stmt_weight v.defines v.state m (bare_stmt x)) 1048577 → new ≡ min (all + n) 1048577
      → min (all + stmts_weight v0.defines v.state m (bare_stmts (drop i xs))) 1048577 ≡ total
      → min (new + stmts_weight v0.defines v2.state m (bare_stmts (drop (i + 1) xs))) 1048577 ≡ total
  all_step all n new total within is n_is new_is all_is =
      weight_step all n new (stmt_weight v0.defines v.state m (bare_stmt x)) (stmts_weight v0.defines v2.state m (bare_stmts (drop (i + 1) xs)))
      (stmts_weight v0.defines v.state m (bare_stmts (drop i xs))) total new_is
      (n_is ∙ ap (λ ds. min (stmt_weight ds v.state m (bare_stmt x)) 1048577) known)
      (stmts_more v0.defines v.state m xs i x within is
      ∙ ap (λ u. stmt_weight v0.defines v.state m (bare_stmt x) + stmts_weight v0.defines u m (bare_stmts (drop (i + 1) xs))) (sym state_is))
      all_is

  pub outside_step : (k : ℕ) → k ≤ length v.state.frame → with_frame (keep k v.state.frame) v.state ≡ v0.state → with_frame (keep k v2.state.frame) v2.state ≡ v0.state
  outside_step k le outside = ap (λ u. with_frame (keep k u.frame) u) state_is ∙ (kept_after k v.state le (bare_stmt x) ∙ outside)

  pub deep_step : (k : ℕ) → k ≤ length v.state.frame → k ≤ length v2.state.frame
  deep_step k le = subst (λ u. k ≤ length u.frame) (sym state_is) (deep_after k v.state le (bare_stmt x))

pub ruleset stmts = (keep_whole, well_formed_at)

pub loop_is : (ds : List Define) (s : State) (m : ℕ) (h : Head) (a : Stmts) → stmt_weight ds s m (for_ h a) ≡ head_weight ds s h + stmts_weight ds (in_head h s) (asked_below m) a
loop_is ds s m (head i e next) a = refl

pub ruleset loops = (loop_is)
