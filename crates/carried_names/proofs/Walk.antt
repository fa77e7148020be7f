-- By the structure of statements: what is made of one breaks no name rule where the source breaks none.
use Rattle.std.proofs.Common.{◌≡◌, refl, sym, ap, ◌∙◌, subst, ℕ, max, List, length, Option, Some, None, Bool, true, false, not, arith}
use Rattle.std.specs.Prelude.{bytes_eq, is_some, if◌then◌else◌}
use Rattle.std.proofs.lemmas.Bool.{both_ways, and_parts}
use Rattle.c_tree.specs.Bare.{Name, Expr, Stmt, decl, set, step, print, input, if_, if_else, while_, do_, for_, block, break_, continue_, empty, omp, call, Stmts, no_stmts, more_stmts, Head, head, MaybeStmt, no_stmt, a_stmt}
use Rattle.c_tree.specs.Placed.{expr_list}
use Rattle.c_tree.specs.declared.tree.Ty.{Ty}
use Rattle.c_tree.specs.WellFormed.{WellFormedStmt, WellFormedStmts, MayBegin, MayEnd}
use Rattle.c_tree.specs.declared.name_rule.NameRule.TheVariants.{N1, N2}
use Rattle.c_tree.specs.NameRules.BreachSets.{HasNone}
use Rattle.c_tree.specs.NameRules.Scopes.{Scope, meaning, is_taken, declare, a_scalar, inner, after_stmt, after_part, after_head}
use Rattle.c_tree.specs.NameRules.Breaches.{breach_if, expr_breaches, stmt_breaches, stmts_breaches, part_breaches, head_breaches}
use Rattle.c_tree.specs.NameRules.CallDepth.{deepest_call, deepest_calls}
use Rattle.c_semantics.specs.Meaning.State.{State}
use Rattle.c_semantics.specs.Meaning.Expressions.{Define}
use Rattle.c_semantics.specs.Laws.Names.{Names}
use Rattle.c_semantics.specs.Laws.Apart.{Differ}
use Rattle.c_semantics.specs.Loops.CanonicalForm.{Canonical, canonical}
use Rattle.c_semantics.specs.Loops.Directives.{plan_of}
use Rattle.c_semantics.specs.Structure.Skeleton.{scope_after}
use Rattle.c_soundness.specs.Unplaced.{unplaced_expr, unplaced_exprs, unplaced_stmt, unplaced_stmts, unplaced_part, unplaced_head}
use Rattle.c_soundness.proofs.Fits.{none_if}
use Rattle.c_soundness.proofs.Files.{one_name}
use Rattle.loop_normal.specs.DrawnNames.{FreshNames, AreDigits}
use Rattle.loop_normal.specs.Laws.{source_loop}
use Rattle.carried_out.specs.CarriedOut.{Made, made_leaf, planned, variable_type, with_type, where_typed, loop_at, scope_below, in_head, carried, carried_all, nest, nest_in}
use Rattle.carried_out.specs.Reversible.{all_stay_in, is_reversal, is_reversible, are_reversible, is_nest, is_nest_in}
use Rattle.carried_names.specs.BoundsApart.{ApartIfDeclared, BoundsApart, HasBoundsApart, HaveBoundsApart, LeadsToBoundsApart, IsWithBoundsApart}
use Rattle.carried_names.proofs.Fresh.{Source, Reached}
use Rattle.carried_names.proofs.Declares.{Declares, DeclareAll, DeclaresIf}
use Rattle.carried_names.proofs.Scopes.{Under, Clean, Alike, Scalar, alike_self, alike_inner, alike_declared, taken_alike, inner_under, clean_inner, clean_source}
use Rattle.carried_names.proofs.Uses.{expr_kept, exprs_kept, option_kept, target_kept, call_kept, others_kept, all_kept}
use Rattle.carried_names.proofs.Generated.{Fine, MadeFine, LoopFine, leaf_fine, planned_fine, emitted_fine, free_none}
use Rattle.carried_names.proofs.Heads.{HeadFine, HeadFineIf, head_fine, head_depth, end_declares_none}

max_right : (n : ℕ) → max n 0 ≡ n
max_right n = omega arith

max_left : (n : ℕ) → max 0 n ≡ n
max_left n = omega arith

-- what a bound is to be
abbrev ApartBound : Option Ty → Name → Expr → Type 0
ApartBound None x e = Unit {0}
ApartBound (Some T) x e = Names (λ y. Differ y x) e

bounds_of : (o : Option Ty) (c : Canonical) → ApartIfDeclared o c → ApartBound o c.var c.lb × ApartBound o c.var c.ub
bounds_of None c h = (tt, tt)
bounds_of (Some T) c h = h

module _ (start : FreshNames) (digits : AreDigits start.digits) (inside : Bool) where
  -- ---- what stays as it is

  record Kept (il : Bool) (s t : Scope) (a b : Stmt) : Type 0 where
    pub none : HasNone (stmt_breaches inside il t (unplaced_stmt b))
    pub depth : deepest_call t (unplaced_stmt b) ≡ deepest_call s (unplaced_stmt a)
    pub after : Alike start (after_stmt s (unplaced_stmt a)) (after_stmt t (unplaced_stmt b))

  module _ (il : Bool) (s t : Scope) (alike : Alike start s t) where
    decl_kept : (T : Ty) (x : Name) (e : Option Expr) → Source start x → HasNone (stmt_breaches inside il s (unplaced_stmt (decl T x e))) → Kept il s t (decl T x e) (decl T x e)
    decl_kept T x e source h =
        let free : is_taken s x ≡ false = none_if (is_taken s x) N2 0 h.0 in
        let after = alike_declared start s t x alike source free in
        record {
          none = (free_none t x (taken_alike start s t x alike source free), option_kept start (declare x a_scalar s) (declare x a_scalar t) after.under after.clean e h.1);
          depth = refl;
          after = after;
        }

    begin_kept : (i : MaybeStmt) → MayBegin i → DeclaresIf (Source start) i → HasNone (part_breaches inside il s (unplaced_part i)) → HasNone (part_breaches inside il t (unplaced_part i)) × Alike start (after_part s (unplaced_part i)) (after_part t (unplaced_part i))
    begin_kept no_stmt m u h = (tt, alike)
    begin_kept (a_stmt (decl T x (Some e))) m u h = let k = decl_kept T x (Some e) u h in (k.none, k.after)
    begin_kept (a_stmt (set a op e)) m u h = ((target_kept start s t alike.under alike.clean a h.0, expr_kept start s t alike.under alike.clean e h.1), alike)
    begin_kept (a_stmt (step a up)) m u h = (target_kept start s t alike.under alike.clean a h, alike)
    begin_kept (a_stmt a) m u h = absurd m

    end_kept : (i : MaybeStmt) → MayEnd i → HasNone (part_breaches inside il s (unplaced_part i)) → HasNone (part_breaches inside il t (unplaced_part i))
    end_kept no_stmt m h = tt
    end_kept (a_stmt (set a op e)) m h = (target_kept start s t alike.under alike.clean a h.0, expr_kept start s t alike.under alike.clean e h.1)
    end_kept (a_stmt (step a up)) m h = target_kept start s t alike.under alike.clean a h
    end_kept (a_stmt a) m h = absurd m

  -- a head, and the scope in it
  record HeadKept (il : Bool) (s t : Scope) (h : Head) : Type 0 where
    pub none : HasNone (head_breaches inside il t (unplaced_head h))
    pub after : Alike start (after_head s (unplaced_head h)) (after_head t (unplaced_head h))

  head_kept : (il : Bool) (s t : Scope) (i : MaybeStmt) (e : Option Expr) (next : MaybeStmt) → Alike start s t → MayBegin i → MayEnd next → DeclaresIf (Source start) i → HasNone (head_breaches inside il s (unplaced_head (head i e next))) → HeadKept il s t (head i e next)
  head_kept il s t i e next alike m n u h =
      let v = after_part (inner s) (unplaced_part i) in
      let w = after_part (inner t) (unplaced_part i) in
      let b = begin_kept il (inner s) (inner t) (alike_inner start s t alike) i m u h.0 in
      record {
        none = (b.0, (option_kept start v w b.1.under b.1.clean e h.1.0, end_kept il v w b.1 next n h.1.1));
        after = subst (λ z. Alike start z (after_part w (unplaced_part next))) (sym (end_declares_none v next n)) (subst (λ z. Alike start v z) (sym (end_declares_none w next n)) b.1);
      }

  module _ (ds : List Define) where
    record StmtKept (il : Bool) (s t : Scope) (a : Stmt) (m : Made Stmt) : Type 0 where
      pub kept : Kept il s t a m.tree
      pub reached : Reached start m.left

    pub record StmtsKept (il : Bool) (s t : Scope) (a : Stmts) (m : Made Stmts) : Type 0 where
      pub fine : Fine inside il t m.tree (deepest_calls s (unplaced_stmts a))
      pub reached : Reached start m.left

    -- ---- the loop of a construct

    loop_kept : (u : State) (il : Bool) (s t : Scope) (i : MaybeStmt) (e : Option Expr) (next : MaybeStmt) (a : Stmts) (m : Made Stmts) → Under start s t → Clean start s →
        MayBegin i → MayEnd next → HasNone (head_breaches inside il s (unplaced_head (head i e next))) → DeclaresIf (Source start) i → BoundsApart (canonical ds (head i e next)) →
        ((v : Scope) → Alike start (inner (after_head s (unplaced_head (head i e next)))) v → StmtsKept true (inner (after_head s (unplaced_head (head i e next)))) v a m) →
        is_some (loop_at ds u (head i e next)) ≡ true → MadeFine start digits inside t (deepest_call s (unplaced_stmt (for_ (head i e next) a))) (made_leaf (loop_at ds u (head i e next)) m)
    loop_kept u il s t i e next a m under clean begin end h own apart body some = by (canonical ds (head i e next)) (head_fine start s clean ds inside il i e next begin end own h) apart some
      where
        w : Scope
        w = after_head s (unplaced_head (head i e next))

        depth : ℕ
        depth = deepest_call s (unplaced_stmt (for_ (head i e next) a))

        same_depth : deepest_calls (inner w) (unplaced_stmts a) ≡ depth
        same_depth = sym (ap (λ n. max n (deepest_calls (inner w) (unplaced_stmts a))) (head_depth s i e next begin end) ∙ max_left (deepest_calls (inner w) (unplaced_stmts a)))

        bound : (c : Canonical) → HeadFine start s clean w c → (o : Option Ty) → c.ty ≡ o → (b : Expr) → ApartBound o c.var b → HasNone (expr_breaches w (unplaced_expr b)) → HasNone (expr_breaches s (unplaced_expr b))
        bound c f None e b n h = all_kept w s (λ y. f.var.in_head y ∙ outer_same y (bytes_eq y c.var) refl (f.var.outer e)) b h
          where
            outer_same : (y : Name) (t : Bool) → bytes_eq y c.var ≡ t → Scalar s c.var → (if t then Some a_scalar else meaning s y) ≡ meaning s y
            outer_same y true q own = sym (ap (meaning s) (one_name y c.var q) ∙ own)
            outer_same y false q own = refl
        bound c f (Some T) e b n h = others_kept w s c.var f.var.in_head b n h

        typed : (c : Canonical) → HeadFine start s clean w c → ApartIfDeclared c.ty c → (o : Option Ty) → is_some (with_type c o) ≡ true → MadeFine start digits inside t depth (made_leaf (with_type c o) m)
        typed c f n None some = absurd (both_ways false refl some)
        typed c f n (Some T) some =
            let inner_clean = clean_inner start w (clean_source start s w c.var clean f.var.source f.var.in_head) in
            let own = body (inner w) (alike_self start (inner w) inner_clean) in
            let both = bounds_of c.ty c n in
            let facts : LoopFine start digits inside s w (source_loop c T) m.tree depth = record {
              clean = clean;
              var_source = f.var.source;
              no_define = f.var.no_define;
              lb = bound c f c.ty refl c.lb both.0 f.lb;
              ub = bound c f c.ty refl c.ub both.1 f.ub;
              in_head = f.var.in_head;
              print_same = f.var.print_same;
              input_same = f.var.input_same;
              body_fine = λ v alike. subst (λ k. Fine inside true v m.tree k) same_depth (body v alike).fine;
            } in
            record { gen = leaf_fine start digits inside s w t m.left (source_loop c T) m.tree depth under own.reached facts }

        by : (o : Option Canonical) → HeadFineIf start s clean w o → BoundsApart o → is_some (where_typed u o) ≡ true → MadeFine start digits inside t depth (made_leaf (where_typed u o) m)
        by None f b some = absurd (both_ways false refl some)
        by (Some c) f b some = typed c f b (variable_type u c.ty c.var) some

    -- ---- statements

    mutual
      stmt_kept : (u : State) (a : Stmt) → is_reversible ds u a ≡ true → WellFormedStmt a → HasBoundsApart ds a → Declares (Source start) a → (f : FreshNames) → Reached start f → (il : Bool) (s t : Scope) → Alike start s t →
          HasNone (stmt_breaches inside il s (unplaced_stmt a)) → StmtKept il s t a (carried ds u a f)
      stmt_kept u (decl T x e) r w o d f q il s t k h = record { kept = decl_kept il s t k T x e d h; reached = q }
      stmt_kept u (set a op e) r w o d f q il s t k h =
          record { kept = record { none = (target_kept start s t k.under k.clean a h.0, expr_kept start s t k.under k.clean e h.1); depth = refl; after = k }; reached = q }
      stmt_kept u (step a up) r w o d f q il s t k h = record { kept = record { none = target_kept start s t k.under k.clean a h; depth = refl; after = k }; reached = q }
      stmt_kept u (print e) r w o d f q il s t k h =
          record { kept = record { none = (subst (λ b. HasNone (breach_if (not b) N1 0)) (sym k.under.print_same) h.0, expr_kept start s t k.under k.clean e h.1); depth = refl; after = k }; reached = q }
      stmt_kept u (input a) r w o d f q il s t k h =
          record { kept = record { none = (target_kept start s t k.under k.clean a h.0, subst (λ b. HasNone (breach_if (not b) N1 0)) (sym k.under.input_same) h.1); depth = refl; after = k }; reached = q }
      stmt_kept u (if_ e a) r w o d f q il s t k h =
          let b = stmts_kept u a r w.1 o d f q il (inner s) (inner t) (alike_inner start s t k) h.1 in
          record { kept = record { none = (expr_kept start s t k.under k.clean e h.0, b.fine.none); depth = b.fine.depth; after = k }; reached = b.reached }
      stmt_kept u (if_else e a c) r w o d f q il s t k h =
          let b = stmts_kept u a (and_parts _ _ r).0 w.1 o.0 d.0 f q il (inner s) (inner t) (alike_inner start s t k) h.1.0 in
          let g = stmts_kept u c (and_parts (are_reversible ds u a) _ r).1 w.2 o.1 d.1 (carried_all ds u a f).left b.reached il (inner s) (inner t) (alike_inner start s t k) h.1.1 in
          record { kept = record { none = (expr_kept start s t k.under k.clean e h.0, (b.fine.none, g.fine.none)); depth = λ j. max (b.fine.depth j) (g.fine.depth j); after = k }; reached = g.reached }
      stmt_kept u (while_ e a) r w o d f q il s t k h =
          let b = stmts_kept u a r w.1 o d f q true (inner s) (inner t) (alike_inner start s t k) h.1 in
          record { kept = record { none = (expr_kept start s t k.under k.clean e h.0, b.fine.none); depth = b.fine.depth; after = k }; reached = b.reached }
      stmt_kept u (do_ a e) r w o d f q il s t k h =
          let b = stmts_kept u a r w.0 o d f q true (inner s) (inner t) (alike_inner start s t k) h.0 in
          record { kept = record { none = (b.fine.none, expr_kept start s t k.under k.clean e h.1); depth = b.fine.depth; after = k }; reached = b.reached }
      stmt_kept u (for_ (head i e next) a) r w o d f q il s t k h =
          let g = head_kept il s t i e next k w.0.0 w.0.3 d.0 h.0 in
          let v = after_head s (unplaced_head (head i e next)) in
          let z = after_head t (unplaced_head (head i e next)) in
          let b = stmts_kept (in_head (head i e next) u) a r w.1 o d.1 f q true (inner v) (inner z) (alike_inner start v z g.after) h.1 in
          let heads = head_depth t i e next w.0.0 w.0.3 ∙ sym (head_depth s i e next w.0.0 w.0.3) in
          record { kept = record { none = (g.none, b.fine.none); depth = λ j. max (heads j) (b.fine.depth j); after = k }; reached = b.reached }
      stmt_kept u (block a) r w o d f q il s t k h =
          let b = stmts_kept u a r w o d f q il (inner s) (inner t) (alike_inner start s t k) h in
          record { kept = record { none = b.fine.none; depth = b.fine.depth; after = k }; reached = b.reached }
      stmt_kept u break_ r w o d f q il s t k h = record { kept = record { none = h; depth = refl; after = k }; reached = q }
      stmt_kept u continue_ r w o d f q il s t k h = record { kept = record { none = h; depth = refl; after = k }; reached = q }
      stmt_kept u empty r w o d f q il s t k h = record { kept = record { none = tt; depth = refl; after = k }; reached = q }
      stmt_kept u (omp p a) r w o d f q il s t k h =
          let n = deepest_calls (inner s) (unplaced_stmts a) in
          let inner_nest = nest_kept u a (and_parts (is_reversal (plan_of ds p)) _ r).1 w.1 o d f q il (inner s) t (inner_under start s t k.under) (clean_inner start s k.clean) h.1 in
          let m = planned_fine start digits inside t n (plan_of ds p) (nest ds u a f) inner_nest in
          let b = emitted_fine start digits inside t n (planned (plan_of ds p) (nest ds u a f)) m il in
          record { kept = record { none = b.none; depth = b.depth; after = k }; reached = m.gen.reached }
      stmt_kept u (call x es) r w o d f q il s t k h =
          let c = call_kept start s t k.under k.clean inside x (length (expr_list (unplaced_exprs es))) h.0 in
          record { kept = record { none = (c.0, exprs_kept start s t k.under k.clean es h.1); depth = c.1; after = k }; reached = q }

      pub stmts_kept : (u : State) (a : Stmts) → are_reversible ds u a ≡ true → WellFormedStmts a → HaveBoundsApart ds a → DeclareAll (Source start) a → (f : FreshNames) → Reached start f → (il : Bool) (s t : Scope) → Alike start s t →
          HasNone (stmts_breaches inside il s (unplaced_stmts a)) → StmtsKept il s t a (carried_all ds u a f)
      stmts_kept u no_stmts r w o d f q il s t k h = record { fine = record { none = tt; depth = refl }; reached = q }
      stmts_kept u (more_stmts a as') r w o d f q il s t k h =
          let b = stmt_kept u a (and_parts _ _ r).0 w.0 o.0 d.0 f q il s t k h.0 in
          let m = carried ds u a f in
          let c = stmts_kept (scope_after a u) as' (and_parts (is_reversible ds u a) _ r).1 w.1 o.1 d.1 m.left b.reached il (after_stmt s (unplaced_stmt a)) (after_stmt t (unplaced_stmt m.tree)) b.kept.after h.1 in
          record { fine = record { none = (b.kept.none, c.fine.none); depth = λ j. max (b.kept.depth j) (c.fine.depth j) }; reached = c.reached }

      nest_kept : (u : State) (a : Stmts) → is_nest ds u a ≡ true → WellFormedStmts a → LeadsToBoundsApart ds a → DeclareAll (Source start) a → (f : FreshNames) → Reached start f → (il : Bool) (s t : Scope) → Under start s t → Clean start s →
          HasNone (stmts_breaches inside il s (unplaced_stmts a)) → MadeFine start digits inside t (deepest_calls s (unplaced_stmts a)) (nest ds u a f)
      nest_kept u no_stmts r w o d f q il s t k c h = absurd (both_ways false refl r)
      nest_kept u (more_stmts a no_stmts) r w o d f q il s t k c h =
          subst (λ n. MadeFine start digits inside t n (nest_in ds u a f)) (sym (max_right (deepest_call s (unplaced_stmt a)))) (nest_in_kept u a r w.0 o d.0 f q il s t k c h.0)
      nest_kept u (more_stmts a (more_stmts b as')) r w o d f q il s t k c h = absurd (both_ways false refl r)

      nest_in_kept : (u : State) (a : Stmt) → is_nest_in ds u a ≡ true → WellFormedStmt a → IsWithBoundsApart ds a → Declares (Source start) a → (f : FreshNames) → Reached start f → (il : Bool) (s t : Scope) → Under start s t → Clean start s →
          HasNone (stmt_breaches inside il s (unplaced_stmt a)) → MadeFine start digits inside t (deepest_call s (unplaced_stmt a)) (nest_in ds u a f)
      nest_in_kept u (for_ (head i e next) a) r w o d f q il s t k c h =
          let below = scope_below u (loop_at ds u (head i e next)) in
          let rest = (and_parts (is_some (loop_at ds u (head i e next))) _ r).1 in
          loop_kept u il s t i e next a (carried_all ds below a f) k c w.0.0 w.0.3 h.0 d.0 o.0
          (λ v alike. stmts_kept below a (and_parts (all_stay_in a) _ rest).1 w.1 o.1 d.1 f q true (inner (after_head s (unplaced_head (head i e next)))) v alike h.1)
          (and_parts _ _ r).0
      nest_in_kept u (block a) r w o d f q il s t k c h = nest_kept u a r w o d f q il (inner s) t (inner_under start s t k) (clean_inner start s c) h
      nest_in_kept u (omp p a) r w o d f q il s t k c h =
          planned_fine start digits inside t (deepest_calls (inner s) (unplaced_stmts a)) (plan_of ds p) (nest ds u a f)
          (nest_kept u a (and_parts (is_reversal (plan_of ds p)) _ r).1 w.1 o d f q il (inner s) t (inner_under start s t k) (clean_inner start s c) h.1)
      nest_in_kept u a r w o d f q il s t k c h = absurd (both_ways false refl r)
