-- An affected loop whose head breaks no rule is canonical, its variable has a type, and no `break` leaves it.
use Rattle.std.proofs.Common.{◌≡◌, refl, sym, ap, ◌∙◌, subst, ℕ, List, [], ◌∷◌, ◌++◌, Option, Some, None, Bool, true, false}
use Rattle.std.specs.Prelude.{is_some, if◌then◌else◌}
use Rattle.std.specs.Option.{option_map}
use Rattle.c_tree.specs.Bare as b
use Rattle.c_tree.specs.Placed.{target, no_exprs, Stmt, decl, set, if_, if_else, block, break_, Stmts, no_stmts, more_stmts, MaybeStmt, a_stmt, Head, head}
use Rattle.c_tree.specs.Forget.{forget_expr, forget_stmt, forget_stmts, forget_maybe, forget_head}
use Rattle.c_tree.specs.WellFormed.{MayEnd}
use Rattle.c_tree.specs.declared.tree.Ty.{Ty}
use Rattle.c_tree.specs.declared.tree.SetOp.TheVariants.{Plain}
use Rattle.c_tree.specs.NameRules.BreachSets as names
use Rattle.c_tree.specs.NameRules.Scopes.{Scope, inner, meaning, declare, a_scalar, after_part}
use Rattle.c_tree.specs.NameRules.Breaches.{part_breaches}
use Rattle.c_semantics.specs.Meaning.State.{scalar, State, push}
use Rattle.c_semantics.specs.Meaning.Expressions.{Define}
use Rattle.c_semantics.specs.Loops.CanonicalForm as form
use Rattle.c_semantics.specs.Loops.CanonicalForm.{Canonical, Init, init, Test, canonical, with_init, with_test, with_step, is_step_for, increment}
use Rattle.canonical_nests.specs.LoopRules.BreachSets.{HasNone}
use Rattle.canonical_nests.specs.LoopRules.Accesses.{breaks, breaks_in}
use Rattle.canonical_nests.specs.LoopRules.Heads.{form_breaches, init_breaches, test_breaches, step_breaches, break_breaches}
use Rattle.carried_out.specs.CarriedOut.{variable_type, with_type, where_typed, loop_at, scope_below}
use Rattle.loop_normal.specs.Templates.{SourceLoop}
use Rattle.loop_normal.specs.Laws.{source_loop}
use Rattle.carried_out.specs.Reversible.{stays_in, all_stay_in}
use Rattle.c_scopes.specs.Types.{type_seen}
use Rattle.std.proofs.lemmas.Bool.{and_from}
use Rattle.carried_admitted.proofs.Visible.{Sees, seen_inside, seen_below, seen_declared, next_adds_nothing, is_variable}

-- ---- the form of the head

step_there : (c : Option Canonical) (at : ℕ) → HasNone (step_breaches c at) → is_some c ≡ true
step_there None at h = absurd h
step_there (Some c) at h = refl

test_there : (t : Option Test) (at : ℕ) (c : Option Canonical) (step_at : ℕ) → HasNone (test_breaches t at c step_at) → is_some c ≡ true
test_there None at c step_at h = absurd h
test_there (Some t) at c step_at h = step_there c step_at h

init_there : (i : Option Init) (e : Option b.Expr) (at test_at : ℕ) (c : Option Canonical) (step_at : ℕ) → HasNone (init_breaches i e at test_at c step_at) → is_some c ≡ true
init_there None e at test_at c step_at h = absurd h
init_there (Some i) e at test_at c step_at h = test_there (form.test i.var e) test_at c step_at h

is_canonical : (ds : List Define) (h : Head) → HasNone (form_breaches ds h) → is_some (canonical ds (forget_head h)) ≡ true
is_canonical ds (head i i_at e e_at next next_at) h = init_there (init (forget_maybe i)) (option_map forget_expr e) i_at e_at _ next_at h

-- ---- the variable is that of the first part

abbrev Begins : Option Init → Canonical → Type 0
Begins o c = (j : Init) × (o ≡ Some j) × (c.var ≡ j.var) × (c.ty ≡ j.ty)

begins : (ds : List Define) (o : Option Init) (e : Option b.Expr) (m : b.MaybeStmt) (c : Canonical) → with_init ds e m o ≡ Some c → Begins o c
begins ds None e m c h = absurd (cc)
begins ds (Some j) e m c h = by_test (form.test j.var e) h
  where
    by_fit : (t : Test) (z : _) (fits : Bool) → (if fits then Some (record { var = j.var; ty = j.ty; lb = j.lb; ub = t.ub; test = t.op; step = z }) else None) ≡ Some c → Begins (Some j) c
    by_fit t z true k = let same : record { var = j.var; ty = j.ty; lb = j.lb; ub = t.ub; test = t.op; step = z } ≡ c = cc in (j, refl, ap (λ u. u.var) (sym same), ap (λ u. u.ty) (sym same))
    by_fit t z false k = absurd (cc)

    by_step : (t : Test) (o : Option _) → with_step j t o ≡ Some c → Begins (Some j) c
    by_step t None k = absurd (cc)
    by_step t (Some z) k = by_fit t z (is_step_for t.op z) k

    by_test : (o : Option Test) → with_test ds m j o ≡ Some c → Begins (Some j) c
    by_test None k = absurd (cc)
    by_test (Some t) k = by_step t (increment ds j.var m) k

-- ---- its type

module _ (ds : List Define) (f l : Bool) (t : Scope) (s : State) (sees : Sees t s) where
  -- the first part of a canonical head declares the variable or assigns it
  typed_by : (i : MaybeStmt) (c : Canonical) → names.HasNone (part_breaches f l (inner t) i) → Begins (init (forget_maybe i)) c → is_some (variable_type s c.ty c.var) ≡ true
  typed_by (a_stmt (decl T x at (Some e) sp)) c h (j, is, var, ty) =
      let own : j.ty ≡ Some T = cc in subst (λ o. is_some (variable_type s o c.var) ≡ true) (sym (ty ∙ own)) refl
  typed_by (a_stmt (set (target x no_exprs at) Plain e sp)) c h (j, is, var, ty) =
      let own : j.ty ≡ None = cc in
      let name : j.var ≡ x = cc in
      let v = is_variable (meaning (inner t) x) 0 at.start at.start h.0.0 h.0.1.0 in
      subst (λ o. is_some (variable_type s o c.var) ≡ true) (sym (ty ∙ own))
      (subst (λ y. is_some (type_seen s y) ≡ true) (sym (var ∙ name)) (seen_inside t s sees x v.0 v.1))
  typed_by _ c h (j, is, var, ty) = absurd (cc)

  typed : (i : MaybeStmt) (c : Option Canonical) → names.HasNone (part_breaches f l (inner t) i) → ((k : Canonical) → c ≡ Some k → Begins (init (forget_maybe i)) k)
      → is_some c ≡ true → is_some (where_typed s c) ≡ true
  typed i None h from there = absurd (cc)
  typed i (Some c) h from there = by (variable_type s c.ty c.var) (typed_by i c h (from c refl))
    where
      by : (o : Option _) → is_some o ≡ true → is_some (with_type c o) ≡ true
      by None k = absurd (cc)
      by (Some T) k = refl

-- a loop is there to be carried out
pub loop_there : (ds : List Define) (f l : Bool) (t : Scope) (s : State) → Sees t s → (i : MaybeStmt) (i_at : ℕ) (e : Option _) (e_at : ℕ) (next : MaybeStmt) (next_at : ℕ)
    → names.HasNone (part_breaches f l (inner t) i) → HasNone (form_breaches ds (head i i_at e e_at next next_at))
    → is_some (loop_at ds s (forget_head (head i i_at e e_at next next_at))) ≡ true
loop_there ds f l t s sees i i_at e e_at next next_at h k =
    typed ds f l t s sees i (canonical ds (forget_head (head i i_at e e_at next next_at))) h
    (λ c is. begins ds (init (forget_maybe i)) (option_map forget_expr e) (forget_maybe next) c is)
    (is_canonical ds (head i i_at e e_at next next_at) k)

-- ---- no `break` leaves it

no_places : (ats : List ℕ) → HasNone (break_breaches ats) → ats ≡ []
no_places [] h = refl
no_places (at ∷ ats) h = absurd h.0

empty_parts : (xs ys : List ℕ) → xs ++ ys ≡ [] → (xs ≡ []) × (ys ≡ [])
empty_parts [] ys h = (refl, h)
empty_parts (x ∷ xs) ys h = absurd (cc)

mutual
  stays : (a : Stmt) → breaks a ≡ [] → stays_in (forget_stmt a) ≡ true
  stays (break_ s) h = absurd (cc)
  stays (if_ e a s) h = all_stay a h
  stays (if_else e a c s) h =
      let k = empty_parts (breaks_in a) (breaks_in c) h in and_from (all_stay_in (forget_stmts a)) (all_stay_in (forget_stmts c)) (all_stay a k.0) (all_stay c k.1)
  stays (block a s) h = all_stay a h
  stays _ h = refl

  all_stay : (a : Stmts) → breaks_in a ≡ [] → all_stay_in (forget_stmts a) ≡ true
  all_stay no_stmts h = refl
  all_stay (more_stmts a as') h =
      let k = empty_parts (breaks a) (breaks_in as') h in and_from (stays_in (forget_stmt a)) (all_stay_in (forget_stmts as')) (stays a k.0) (all_stay as' k.1)

pub no_break_leaves : (a : Stmts) → HasNone (break_breaches (breaks_in a)) → all_stay_in (forget_stmts a) ≡ true
no_break_leaves a h = all_stay a (no_places (breaks_in a) h)

-- ---- what is visible in its body

loop_begins : (ds : List Define) (s : State) (i : b.MaybeStmt) (e : Option b.Expr) (m : b.MaybeStmt) (l : SourceLoop) → loop_at ds s (b.head i e m) ≡ Some l → (j : Init) × (init i ≡ Some j) × (l.var ≡ j.var)
loop_begins ds s i e m l h = by (canonical ds (b.head i e m)) refl h
  where
    typed_as : (c : Canonical) (o : Option Ty) → with_type c o ≡ Some l → l.var ≡ c.var
    typed_as c None k = absurd (cc)
    typed_as c (Some T) k = let same : source_loop c T ≡ l = cc in ap (λ u. u.var) (sym same)

    by : (o : Option Canonical) → canonical ds (b.head i e m) ≡ o → where_typed s o ≡ Some l → (j : Init) × (init i ≡ Some j) × (l.var ≡ j.var)
    by None is k = absurd (cc)
    by (Some c) is k = let from = begins ds (init i) e m c is in (from.0, from.1, typed_as c (variable_type s c.ty c.var) k ∙ from.2)

module _ (t : Scope) (s : State) (sees : Sees t s) where
  seen_by : (i : MaybeStmt) (l : SourceLoop) → (j : Init) × (init (forget_maybe i) ≡ Some j) × (l.var ≡ j.var) → Sees (after_part (inner t) i) (push l.var (scalar l.ty None) s)
  seen_by (a_stmt (decl T x at (Some e) sp)) l (j, is, var) =
      let own : j.var ≡ x = cc in
      subst (λ y. Sees (declare x a_scalar (inner t)) (push y (scalar l.ty None) s)) (sym (var ∙ own)) (seen_declared (inner t) s x (scalar l.ty None) (seen_inside t s sees))
  seen_by (a_stmt (set (target x no_exprs at) Plain e sp)) l h = seen_below (inner t) s l.var (scalar l.ty None) (seen_inside t s sees)
  seen_by _ l (j, is, var) = absurd (cc)

pub seen_below_head : (ds : List Define) (t : Scope) (s : State) (i : MaybeStmt) (e : Option b.Expr) (next : MaybeStmt) → MayEnd (forget_maybe next) → Sees t s
    → is_some (loop_at ds s (b.head (forget_maybe i) e (forget_maybe next))) ≡ true
    → Sees (inner (after_part (after_part (inner t) i) next)) (scope_below s (loop_at ds s (b.head (forget_maybe i) e (forget_maybe next))))
seen_below_head ds t s i e next ends g there = by (loop_at ds s (b.head (forget_maybe i) e (forget_maybe next))) refl there
  where
    begun : Scope
    begun = after_part (inner t) i

    by : (o : Option SourceLoop) → loop_at ds s (b.head (forget_maybe i) e (forget_maybe next)) ≡ o → is_some o ≡ true → Sees (inner (after_part begun next)) (scope_below s o)
    by None is k = absurd (cc)
    by (Some l) is k =
        let inside : Sees begun (push l.var (scalar l.ty None) s) = seen_by t s g i l (loop_begins ds s (forget_maybe i) e (forget_maybe next) l is) in
        seen_inside (after_part begun next) (push l.var (scalar l.ty None) s) (subst (λ u. Sees u (push l.var (scalar l.ty None) s)) (sym (next_adds_nothing begun next ends)) inside)
