-- What is visible in loops and after statements, and what is visible again when a walk leaves them.
use Rattle.std.proofs.Common.{◌≡◌, ◌∙◌, refl, sym, ap, subst, ◌≤◌, ◌-◌, ◌≢◌, ℕ, zero, suc, List, ◌∷◌, length, drop, Option, Some, None, arith}
use Rattle.c_tree.specs.Bare as b
use Rattle.c_tree.specs.BareOf.{bare_head}
use Rattle.c_tree.specs.Placed as p
use Rattle.c_tree.specs.PlacedOf.{placed_head}
use Rattle.c_tree.specs.Forget.{forget_head}
use Rattle.c_tree.specs.declared.tree.ForHead.{ForHead}
use Rattle.c_tree.proofs.Forgotten.Stmts.{bare_head_is}
use Rattle.c_semantics.specs.Meaning.State.{State, Var, scalar, with_frame, keep}
use Rattle.c_semantics.specs.Meaning.Expressions.{Define}
use Rattle.c_semantics.specs.Loops.CanonicalForm.{Canonical, canonical}
use Rattle.c_semantics.specs.Loops.TripCount.{loop_type}
use Rattle.c_semantics.specs.Structure.Skeleton.{scope_after, scope_in}
use Rattle.canonical_nests.specs.LoopRules.Heads.{init_of, scope_below}
use Rattle.loop_counts.specs.Visible.{Visible}
use Rattle.loop_counts.specs.Wanted.{in_head}
use Rattle.loop_counts.proofs.WantedKinds.{left_head}
use Rattle.restrictions.specs.Walks.{for_state}

-- ---- into a loop

in_first : (h : p.Head) (s : State) → in_head (forget_head h) s ≡ scope_in (init_of h) s
in_first (p.head i i_at e e_at next next_at) s = refl

pub entered_in : (h : ForHead) (s : State) → in_head (bare_head h) s ≡ scope_in (init_of (placed_head h)) s
entered_in h s = ap (λ g. in_head g s) (bare_head_is h) ∙ in_first (placed_head h) s

pub ruleset entered = (entered_in)

pub none_wanted : (ds : List Define) (s : State) (m : ℕ) (h : ForHead) → m ≡ 0 → for_state ds s m (placed_head h) ≡ in_head (bare_head h) s
none_wanted ds s m h is = ap (λ n. for_state ds s n (placed_head h)) is ∙ sym (entered_in h s)

pub some_wanted : (ds : List Define) (s : State) (m : ℕ) (h : ForHead) → m ≢ 0 → for_state ds s m (placed_head h) ≡ scope_below ds s (init_of (placed_head h)) (canonical ds (bare_head h))
some_wanted ds s zero h some = absurd (some refl)
some_wanted ds s (suc m) h some = ap (λ g. scope_below ds s (init_of (placed_head h)) (canonical ds g)) (sym (bare_head_is h))

pub ruleset wanted = (none_wanted, some_wanted)

-- ---- out of a loop

keep_rest : (k : ℕ) (v : Var) (vs : List Var) → k ≡ length vs → keep k (v ∷ vs) ≡ vs
keep_rest k v vs e = let one : length (v ∷ vs) - k ≡ suc zero = omega arith in ap (λ n. drop n (v ∷ vs)) one

left_first : (h : p.Head) (s : State) (k : ℕ) → k ≡ length s.frame → with_frame (keep k (scope_in (init_of h) s).frame) (scope_in (init_of h) s) ≡ s
left_first (p.head i i_at e e_at next next_at) s k is = left_head (forget_head (p.head i i_at e e_at next next_at)) s k is

left_below : (ds : List Define) (h : p.Head) (c : Option Canonical) (s : State) (k : ℕ) → k ≡ length s.frame
    → with_frame (keep k (scope_below ds s (init_of h) c).frame) (scope_below ds s (init_of h) c) ≡ s
left_below ds h None s k is = left_first h s k is
left_below ds h (Some c) s k is = ap (λ f. with_frame f s) (keep_rest k (record { name = c.var; cell = scalar (loop_type ds s c) None }) s.frame is)

pub left_loop : (ds : List Define) (s : State) (m : ℕ) (h : p.Head) (k : ℕ) → k ≡ length s.frame
    → with_frame (keep k (for_state ds s m h).frame) (for_state ds s m h) ≡ s
left_loop ds s zero h k is = left_first h s k is
left_loop ds s (suc m) h k is = left_below ds h (canonical ds (forget_head h)) s k is

pub ruleset left = (left_loop)

-- ---- after a statement

keep_more : (k : ℕ) (v : Var) (vs : List Var) → k ≤ length vs → keep k (v ∷ vs) ≡ keep k vs
keep_more k v vs le = let e : length (v ∷ vs) - k ≡ suc (length vs - k) = omega arith in ap (λ n. drop n (v ∷ vs)) e

pub keep_whole : (k : ℕ) (s : State) → k ≡ length s.frame → with_frame (keep k s.frame) s ≡ s
keep_whole k s e = let none : length s.frame - k ≡ 0 = omega arith in ap (λ n. with_frame (drop n s.frame) s) none

module _ (k : ℕ) (s : State) (le : k ≤ length s.frame) where
  kept_after : (a : b.Stmt) → with_frame (keep k (scope_after a s).frame) (scope_after a s) ≡ with_frame (keep k s.frame) s
  kept_after (b.decl t x e) = ap (λ f. with_frame f s) (keep_more k (record { name = x; cell = scalar t None }) s.frame le)
  kept_after (b.set t o e) = refl
  kept_after (b.step t up) = refl
  kept_after (b.print e) = refl
  kept_after (b.input t) = refl
  kept_after (b.if_ e a) = refl
  kept_after (b.if_else e a c) = refl
  kept_after (b.while_ e a) = refl
  kept_after (b.do_ a e) = refl
  kept_after (b.for_ h a) = refl
  kept_after (b.block a) = refl
  kept_after b.break_ = refl
  kept_after b.continue_ = refl
  kept_after b.empty = refl
  kept_after (b.omp d a) = refl
  kept_after (b.call f es) = refl

  deep_after : (a : b.Stmt) → k ≤ length (scope_after a s).frame
  deep_after (b.decl t x e) = omega (arith, le)
  deep_after (b.set t o e) = le
  deep_after (b.step t up) = le
  deep_after (b.print e) = le
  deep_after (b.input t) = le
  deep_after (b.if_ e a) = le
  deep_after (b.if_else e a c) = le
  deep_after (b.while_ e a) = le
  deep_after (b.do_ a e) = le
  deep_after (b.for_ h a) = le
  deep_after (b.block a) = le
  deep_after b.break_ = le
  deep_after b.continue_ = le
  deep_after b.empty = le
  deep_after (b.omp d a) = le
  deep_after (b.call f es) = le

-- at the start, before a statement, after its walk, and after it
module _ (v0 v v1 v2 : Visible) (a : b.Stmt) (same : v1 ≡ v) (after : v2 ≡ record v1 { state = scope_after a v1.state }) where
  pub state_step : v2.state ≡ scope_after a v.state
  state_step = ap (λ w. w.state) after ∙ ap (λ w. scope_after a w.state) same

  pub defines_step : v.defines ≡ v0.defines → v2.defines ≡ v0.defines
  defines_step known = ap (λ w. w.defines) after ∙ (ap (λ w. w.defines) same ∙ known)

  pub outside_step : (k : ℕ) → k ≤ length v.state.frame → with_frame (keep k v.state.frame) v.state ≡ v0.state → with_frame (keep k v2.state.frame) v2.state ≡ v0.state
  outside_step k le outside = ap (λ u. with_frame (keep k u.frame) u) state_step ∙ (kept_after k v.state le a ∙ outside)

  pub deep_step : (k : ℕ) → k ≤ length v.state.frame → k ≤ length v2.state.frame
  deep_step k le = subst (λ u. k ≤ length u.frame) (sym state_step) (deep_after k v.state le a)

pub back_outside : (v0 v w : Visible) (k : ℕ) → w ≡ record v { state = with_frame (keep k v.state.frame) v.state } → v.defines ≡ v0.defines
    → with_frame (keep k v.state.frame) v.state ≡ v0.state → w ≡ v0
back_outside v0 v w k is known outside = is ∙ (λ j. record { defines = known j; state = outside j })
