-- The head of a loop that breaks no name rule: what its bounds and its variable are.
use Rattle.std.proofs.Common.{◌≡◌, refl, sym, ap, ◌∙◌, subst, max, List, Option, Some, None, Bool, true, false, ℤ}
use Rattle.std.specs.Prelude.{bytes_eq, if◌then◌else◌}
use Rattle.std.specs.Option.{option_map}
use Rattle.c_tree.specs.Bare.{Name, Expr, num, read, item, un, bin, cond, cast, no_exprs, more_exprs, target, decl, set, step, head, MaybeStmt, no_stmt, a_stmt}
use Rattle.c_tree.specs.WellFormed.{MayBegin, MayEnd}
use Rattle.c_tree.specs.declared.tree.Ty.{Ty}
use Rattle.c_tree.specs.declared.tree.BinOp.{BinOp}
use Rattle.c_tree.specs.declared.tree.SetOp.{SetOp}
use Rattle.c_tree.specs.declared.tree.SetOp.TheVariants as to
use Rattle.c_tree.specs.declared.name_rule.Entity.{Entity}
use Rattle.c_tree.specs.declared.name_rule.Entity.TheVariants.{Define, Variable, Function}
use Rattle.c_tree.specs.declared.name_rule.NameRule.TheVariants.{N2, N3}
use Rattle.c_tree.specs.NameRules.BreachSets.{HasNone}
use Rattle.c_tree.specs.NameRules.Scopes.{Scope, meaning, is_define, is_taken, declare, a_scalar, inner, after_part, after_head}
use Rattle.c_tree.specs.NameRules.Breaches.{use_breaches, assign_breaches, expr_breaches, option_breaches, part_breaches, head_breaches}
use Rattle.c_tree.specs.NameRules.CallDepth.{deepest_part, deepest_in_head}
use Rattle.c_semantics.specs.Meaning.Expressions as values
use Rattle.c_semantics.specs.Loops.CanonicalForm.{Canonical, Init, Test, canonical, init, test, test_from, turned, is_read, increment, is_step_for, with_step, with_test, with_init}
use Rattle.c_soundness.specs.Unplaced.{unplaced_expr, unplaced_part, unplaced_head}
use Rattle.c_soundness.proofs.Fits.{none_if, as_many}
use Rattle.c_soundness.proofs.Files.{one_name}
use Rattle.loop_normal.specs.DrawnNames.{FreshNames}
use Rattle.carried_names.proofs.Fresh.{Source}
use Rattle.carried_names.proofs.Declares.{DeclaresIf}
use Rattle.carried_names.proofs.Uses.{is_source}
use Rattle.carried_names.proofs.Scopes.{Clean, under_self, Scalar, meaning_inner, meaning_declared, is_added}

-- ---- parts that may stand in a head

pub begin_depth : (s : Scope) (i : MaybeStmt) → MayBegin i → deepest_part s (unplaced_part i) ≡ 0
begin_depth s no_stmt h = refl
begin_depth s (a_stmt (decl t x (Some e))) h = refl
begin_depth s (a_stmt (set t op e)) h = refl
begin_depth s (a_stmt (step t up)) h = refl
begin_depth s (a_stmt a) h = absurd h

pub end_depth : (s : Scope) (i : MaybeStmt) → MayEnd i → deepest_part s (unplaced_part i) ≡ 0
end_depth s no_stmt h = refl
end_depth s (a_stmt (set t op e)) h = refl
end_depth s (a_stmt (step t up)) h = refl
end_depth s (a_stmt a) h = absurd h

pub head_depth : (s : Scope) (i : MaybeStmt) (e : Option Expr) (next : MaybeStmt) → MayBegin i → MayEnd next → deepest_in_head s (unplaced_head (head i e next)) ≡ 0
head_depth s i e next h k = λ j. max (begin_depth (inner s) i h j) (end_depth (after_part (inner s) (unplaced_part i)) next k j)

pub end_declares_none : (s : Scope) (i : MaybeStmt) → MayEnd i → after_part s (unplaced_part i) ≡ s
end_declares_none s no_stmt h = refl
end_declares_none s (a_stmt (set t op e)) h = refl
end_declares_none s (a_stmt (step t up)) h = refl
end_declares_none s (a_stmt a) h = absurd h

-- what is assigned as a scalar is one
assigned_scalar : (o : Option Entity) → HasNone (use_breaches o 0 0) → HasNone (assign_breaches o 0) → o ≡ Some a_scalar
assigned_scalar None h k = absurd h
assigned_scalar (Some (Define c)) h k = absurd k
assigned_scalar (Some (Variable d)) h k = ap (λ n. Some (Variable n)) (sym (as_many 0 d N3 0 h))
assigned_scalar (Some (Function n d)) h k = absurd h

-- ---- canonical heads

module _ (start : FreshNames) (s : Scope) (clean : Clean start s) where
  -- of a variable, in the scope w of the head
  pub record VarFine (w : Scope) (x : Name) (ty : Option Ty) : Type 0 where
    pub in_head : (y : Name) → meaning w y ≡ (if bytes_eq y x then Some a_scalar else meaning s y)
    pub print_same : w.print_known ≡ s.print_known
    pub input_same : w.input_known ≡ s.input_known
    pub no_define : is_define (meaning s x) ≡ false
    pub outer : ty ≡ None → Scalar s x
    pub source : Source start x

  pub record HeadFine (w : Scope) (c : Canonical) : Type 0 where
    pub var : VarFine w c.var c.ty
    pub lb : HasNone (expr_breaches w (unplaced_expr c.lb))
    pub ub : HasNone (expr_breaches w (unplaced_expr c.ub))

  abbrev pub HeadFineIf : Scope → Option Canonical → Type 0
  HeadFineIf w None = Unit {0}
  HeadFineIf w (Some c) = HeadFine w c

  abbrev InitFineIf : Scope → Option Init → Type 0
  InitFineIf w None = Unit {0}
  InitFineIf w (Some i) = VarFine w i.var i.ty × HasNone (expr_breaches w (unplaced_expr i.lb))

  abbrev TestFineIf : Scope → Option Test → Type 0
  TestFineIf w None = Unit {0}
  TestFineIf w (Some t) = HasNone (expr_breaches w (unplaced_expr t.ub))

  declared_var : (x : Name) (t : Ty) → Source start x → is_taken (inner s) x ≡ false → VarFine (declare x a_scalar (inner s)) x (Some t)
  declared_var x t is free = record {
    in_head = λ y. meaning_declared (inner s) x y free ∙ ap (λ o. if bytes_eq y x then Some a_scalar else o) (meaning_inner s y);
    print_same = ap (λ u. u.print_known) (is_added (inner s) x free);
    input_same = ap (λ u. u.input_known) (is_added (inner s) x free);
    no_define = ap is_define (sym (meaning_inner s x)) ∙ free;
    outer = λ e. absurd (cc);
    source = is;
  }

  outer_var : (x : Name) → Scalar (inner s) x → VarFine (inner s) x None
  outer_var x h =
      let own : Scalar s x = sym (meaning_inner s x) ∙ h in
      record {
        in_head = λ y. meaning_inner s y ∙ by y own (bytes_eq y x) refl;
        print_same = refl;
        input_same = refl;
        no_define = ap is_define own;
        outer = λ e. own;
        source = is_source start s s (under_self start s clean) clean x a_scalar own;
      }
    where
      by : (y : Name) → Scalar s x → (b : Bool) → bytes_eq y x ≡ b → meaning s y ≡ (if b then Some a_scalar else meaning s y)
      by y own true e = ap (meaning s) (one_name y x e) ∙ own
      by y own false e = refl

  set_fine : (x : Name) (o : SetOp) (e : Expr) → HasNone (use_breaches (meaning (inner s) x) 0 0) → HasNone (assign_breaches (meaning (inner s) x) 0) → HasNone (expr_breaches (inner s) (unplaced_expr e)) → InitFineIf (inner s) (init (a_stmt (set (target x no_exprs) o e)))
  set_fine x to.Plain e u a h = (outer_var x (assigned_scalar (meaning (inner s) x) u a), h)
  set_fine x to.Add e u a h = tt
  set_fine x to.Sub e u a h = tt
  set_fine x to.Mul e u a h = tt
  set_fine x to.Div e u a h = tt
  set_fine x to.Rem e u a h = tt

  init_fine : (inside il : Bool) (i : MaybeStmt) → MayBegin i → DeclaresIf (Source start) i → HasNone (part_breaches inside il (inner s) (unplaced_part i)) → InitFineIf (after_part (inner s) (unplaced_part i)) (init i)
  init_fine inside il no_stmt m u h = tt
  init_fine inside il (a_stmt (decl t x (Some e))) m u h = (declared_var x t u (none_if (is_taken (inner s) x) N2 0 h.0), h.1)
  init_fine inside il (a_stmt (set (target x no_exprs) o e)) m u h = set_fine x o e h.0.0 h.0.1.0 h.1
  init_fine inside il (a_stmt (set (target x (more_exprs f fs)) o e)) m u h = tt
  init_fine inside il (a_stmt (step t up)) m u h = tt
  init_fine inside il (a_stmt a) m u h = absurd m

  module _ (w : Scope) where
    sides_fine : (l r : Bool) (o : BinOp) (t : Option BinOp) (a b : Expr) → HasNone (expr_breaches w (unplaced_expr a)) → HasNone (expr_breaches w (unplaced_expr b)) → TestFineIf w (test_from l r o t a b)
    sides_fine true r o (Some u) a b h k = k
    sides_fine true true o None a b h k = tt
    sides_fine true false o None a b h k = tt
    sides_fine false true o (Some u) a b h k = h
    sides_fine false true o None a b h k = tt
    sides_fine false false o (Some u) a b h k = tt
    sides_fine false false o None a b h k = tt

    test_fine : (x : Name) (e : Option Expr) → HasNone (option_breaches w (option_map unplaced_expr e)) → TestFineIf w (test x e)
    test_fine x None h = tt
    test_fine x (Some (num k t)) h = tt
    test_fine x (Some (read y)) h = tt
    test_fine x (Some (item y es)) h = tt
    test_fine x (Some (un o a)) h = tt
    test_fine x (Some (bin o a b)) h = sides_fine (is_read x a) (is_read x b) o (turned o) a b h.0 h.1
    test_fine x (Some (cond a b c)) h = tt
    test_fine x (Some (cast t a)) h = tt

    step_fine : (i : Init) (t : Test) (z : Option ℤ) → InitFineIf w (Some i) → TestFineIf w (Some t) → HeadFineIf w (with_step i t z)
    step_fine i t None h k = tt
    step_fine i t (Some z) h k = by (is_step_for t.op z)
      where
        by : (b : Bool) → HeadFineIf w (if b then Some (record { var = i.var; ty = i.ty; lb = i.lb; ub = t.ub; test = t.op; step = z }) else None)
        by true = record { var = h.0; lb = h.1; ub = k }
        by false = tt

    tested_fine : (ds : List values.Define) (m : MaybeStmt) (i : Init) (t : Option Test) → InitFineIf w (Some i) → TestFineIf w t → HeadFineIf w (with_test ds m i t)
    tested_fine ds m i None h k = tt
    tested_fine ds m i (Some t) h k = step_fine i t (increment ds i.var m) h k

    begun_fine : (ds : List values.Define) (e : Option Expr) (m : MaybeStmt) (i : Option Init) → HasNone (option_breaches w (option_map unplaced_expr e)) → InitFineIf w i → HeadFineIf w (with_init ds e m i)
    begun_fine ds e m None k h = tt
    begun_fine ds e m (Some i) k h = tested_fine ds m i (test i.var e) h (test_fine i.var e k)

  pub head_fine : (ds : List values.Define) (inside il : Bool) (i : MaybeStmt) (e : Option Expr) (next : MaybeStmt) → MayBegin i → MayEnd next → DeclaresIf (Source start) i → HasNone (head_breaches inside il s (unplaced_head (head i e next))) →
      HeadFineIf (after_head s (unplaced_head (head i e next))) (canonical ds (head i e next))
  head_fine ds inside il i e next m n u h =
      let w = after_part (inner s) (unplaced_part i) in
      subst (λ u. HeadFineIf u (canonical ds (head i e next))) (sym (end_declares_none w next n)) (begun_fine w ds e next (init i) h.1.0 (init_fine inside il i m u h.0))
