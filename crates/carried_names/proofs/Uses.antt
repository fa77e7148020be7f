-- What breaks no name rule in a scope breaks none in another one that sees it.
use Rattle.std.proofs.Common.{◌≡◌, refl, sym, ap, ◌∙◌, subst, ℕ, length, Option, Some, None, Bool, false}
use Rattle.std.specs.Prelude.{bytes_eq, if◌then◌else◌}
use Rattle.std.specs.Option.{option_map}
use Rattle.c_tree.specs.Bare.{Name, Expr, num, read, item, un, bin, cond, cast, Exprs, no_exprs, more_exprs, Target, target}
use Rattle.c_tree.specs.Placed.{expr_list}
use Rattle.c_tree.specs.declared.name_rule.Entity.{Entity}
use Rattle.c_tree.specs.NameRules.BreachSets.{HasNone}
use Rattle.c_tree.specs.NameRules.Scopes.{Scope, meaning, a_scalar}
use Rattle.c_tree.specs.NameRules.Breaches.{use_breaches, assign_breaches, call_breaches, expr_breaches, exprs_breaches, option_breaches, target_breaches}
use Rattle.c_tree.specs.NameRules.CallDepth.{depth_of}
use Rattle.c_semantics.specs.Laws.Names.{Names, NamesEach}
use Rattle.loop_normal.specs.DrawnNames.{FreshNames}
use Rattle.c_soundness.specs.Unplaced.{unplaced_expr, unplaced_exprs, unplaced_target}
use Rattle.carried_names.proofs.Fresh.{Source}
use Rattle.carried_names.proofs.Scopes.{Under, Clean, Scalar}

-- ---- by what each name means

module _ (s t : Scope) (P : Name → Type 0) (same : (x : Name) → P x → (k : ℕ) → HasNone (use_breaches (meaning s x) k 0) → HasNone (use_breaches (meaning t x) k 0)) where
  mutual
    pub expr_stays : (e : Expr) → Names P e → HasNone (expr_breaches s (unplaced_expr e)) → HasNone (expr_breaches t (unplaced_expr e))
    expr_stays (num k ty) n h = tt
    expr_stays (read x) n h = same x n 0 h
    expr_stays (item x es) n h = (same x n.0 (length (expr_list (unplaced_exprs es))) h.0, exprs_stay es n.1 h.1)
    expr_stays (un op a) n h = expr_stays a n h
    expr_stays (bin op a b) n h = (expr_stays a n.0 h.0, expr_stays b n.1 h.1)
    expr_stays (cond a b c) n h = (expr_stays a n.0 h.0, (expr_stays b n.1 h.1.0, expr_stays c n.2 h.1.1))
    expr_stays (cast ty a) n h = expr_stays a n h

    pub exprs_stay : (es : Exprs) → NamesEach P es → HasNone (exprs_breaches s (unplaced_exprs es)) → HasNone (exprs_breaches t (unplaced_exprs es))
    exprs_stay no_exprs n h = tt
    exprs_stay (more_exprs e es) n h = (expr_stays e n.0 h.0, exprs_stay es n.1 h.1)

-- any name
abbrev Any : Name → Type 0
Any x = Unit {0}

mutual
  any_names : (e : Expr) → Names Any e
  any_names (num k ty) = tt
  any_names (read x) = tt
  any_names (item x es) = (tt, any_each es)
  any_names (un op a) = any_names a
  any_names (bin op a b) = (any_names a, any_names b)
  any_names (cond a b c) = (any_names a, any_names b, any_names c)
  any_names (cast ty a) = any_names a

  any_each : (es : Exprs) → NamesEach Any es
  any_each no_exprs = tt
  any_each (more_exprs e es) = (any_names e, any_each es)

-- ---- a name that is found means the same in a scope that sees this one

module _ (start : FreshNames) (s t : Scope) (under : Under start s t) (clean : Clean start s) where
  abbrev some_entity : Option Entity → Type 0
  some_entity None = ⊥
  some_entity (Some e) = Unit {0}

  pub is_source : (x : Name) (e : Entity) → meaning s x ≡ Some e → Source start x
  is_source x e is f = subst some_entity (sym is ∙ clean x f) tt

  pub found : (x : Name) (P : Option Entity → Type 0) → (P None → ⊥) → P (meaning s x) → P (meaning t x)
  found x P empty h = by (meaning s x) refl h
    where
      by : (o : Option Entity) → meaning s x ≡ o → P o → P (meaning t x)
      by None e h = absurd (empty h)
      by (Some c) e h = subst P (sym (under.same x (is_source x c e) ∙ e)) h

  use_kept : (x : Name) → Any x → (k : ℕ) → HasNone (use_breaches (meaning s x) k 0) → HasNone (use_breaches (meaning t x) k 0)
  use_kept x a k h = found x (λ o. HasNone (use_breaches o k 0)) (λ z. z) h

  pub expr_kept : (e : Expr) → HasNone (expr_breaches s (unplaced_expr e)) → HasNone (expr_breaches t (unplaced_expr e))
  expr_kept e h = expr_stays s t Any use_kept e (any_names e) h

  pub exprs_kept : (es : Exprs) → HasNone (exprs_breaches s (unplaced_exprs es)) → HasNone (exprs_breaches t (unplaced_exprs es))
  exprs_kept es h = exprs_stay s t Any use_kept es (any_each es) h

  pub option_kept : (o : Option Expr) → HasNone (option_breaches s (option_map unplaced_expr o)) → HasNone (option_breaches t (option_map unplaced_expr o))
  option_kept None h = tt
  option_kept (Some e) h = expr_kept e h

  pub target_kept : (a : Target) → HasNone (target_breaches s (unplaced_target a)) → HasNone (target_breaches t (unplaced_target a))
  target_kept (target x es) h =
      let k = length (expr_list (unplaced_exprs es)) in
      let both = found x (λ o. HasNone (use_breaches o k 0) × HasNone (assign_breaches o 0)) (λ z. z.0) (h.0, h.1.0) in
      (both.0, (both.1, exprs_kept es h.1.1))

  -- a call, and how deep it is
  pub call_kept : (inside : Bool) (x : Name) (k : ℕ) → HasNone (call_breaches inside (meaning s x) k 0) → HasNone (call_breaches inside (meaning t x) k 0) × (depth_of (meaning t x) ≡ depth_of (meaning s x))
  call_kept inside x k h =
      let d = depth_of (meaning s x) in
      let both = found x (λ o. HasNone (call_breaches inside o k 0) × (depth_of o ≡ d)) (λ z. z.0) (h, refl) in
      both

-- ---- in a scope with a scalar in place of another meaning

-- a scalar is read
pub scalar_read : (t : Scope) (x : Name) → Scalar t x → HasNone (expr_breaches t (unplaced_expr (read x)))
scalar_read t x h = subst (λ o. HasNone (use_breaches o 0 0)) (sym h) tt

-- names but one mean the same
pub others_kept : (w s : Scope) (x : Name) → ((y : Name) → meaning w y ≡ (if bytes_eq y x then Some a_scalar else meaning s y)) →
    (e : Expr) → Names (λ y. bytes_eq y x ≡ false) e → HasNone (expr_breaches w (unplaced_expr e)) → HasNone (expr_breaches s (unplaced_expr e))
others_kept w s x is e n h = expr_stays w s (λ y. bytes_eq y x ≡ false) (λ y d k u. subst (λ o. HasNone (use_breaches o k 0)) (is y ∙ ap (λ b. if b then Some a_scalar else meaning s y) d) u) e n h

pub all_kept : (w s : Scope) → ((y : Name) → meaning w y ≡ meaning s y) → (e : Expr) → HasNone (expr_breaches w (unplaced_expr e)) → HasNone (expr_breaches s (unplaced_expr e))
all_kept w s is e h = expr_stays w s Any (λ y a k u. subst (λ o. HasNone (use_breaches o k 0)) (is y) u) e (any_names e) h
