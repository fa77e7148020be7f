-- What breaks no name rule in a scope breaks none in another one in which its names mean the same.
use Rattle.std.proofs.Common.{◌≡◌, refl, sym, ap, ◌∙◌, subst, ℕ, length, Option, Some, None, Bool, true, false, not}
use Rattle.std.specs.Prelude.{bytes_eq, is_some, if◌then◌else◌}
use Rattle.std.specs.Option.{option_map}
use Rattle.c_tree.specs.Bare.{Name, Expr, num, read, item, un, bin, cond, cast, Exprs, no_exprs, more_exprs, Target, target, Stmt, decl, set, step, print, input, if_, if_else, while_, do_, for_, block, break_, continue_, empty, omp, call, Stmts, no_stmts, more_stmts, head, MaybeStmt, no_stmt, a_stmt}
use Rattle.c_tree.specs.Placed.{expr_list}
use Rattle.c_tree.specs.declared.tree.Ty.{Ty}
use Rattle.c_tree.specs.declared.name_rule.NameRule.TheVariants.{N1, N2}
use Rattle.c_tree.specs.NameRules.BreachSets.{HasNone}
use Rattle.c_tree.specs.NameRules.Scopes.{Scope, find, meaning, is_define, is_taken, declare, a_scalar, inner, after_stmt, after_part}
use Rattle.c_tree.specs.NameRules.Breaches.{breach_if, use_breaches, assign_breaches, call_breaches, expr_breaches, exprs_breaches, option_breaches, target_breaches, stmt_breaches, stmts_breaches, part_breaches}
use Rattle.c_semantics.specs.Laws.Names.{Names, NamesEach, NamesIf, NamesIn, Uses, UsesAll, UsesIf}
use Rattle.c_semantics.specs.Laws.Apart.{Differ}
use Rattle.c_soundness.specs.NeverStuck.{IsPlain, AllPlain, MaybePlain}
use Rattle.c_soundness.specs.Unplaced.{unplaced_expr, unplaced_exprs, unplaced_target, unplaced_stmt, unplaced_stmts, unplaced_part}
use Rattle.c_soundness.proofs.Fits.{none_if}
use Rattle.nest_normal.specs.NestTexts.{declares_name, declares}
use Rattle.template_laws.proofs.Scopes.{meaning_inner, is_added, meaning_declared, not_taken, own_free, no_define}

-- ---- expressions, by what each name means

module _ (s t : Scope) (P : Name → Type 0) (same : (x : Name) → P x → meaning t x ≡ meaning s x) where
  use_stays : (x : Name) → P x → (k : ℕ) → HasNone (use_breaches (meaning s x) k 0) → HasNone (use_breaches (meaning t x) k 0)
  use_stays x p k h = subst (λ o. HasNone (use_breaches o k 0)) (sym (same x p)) h

  mutual
    pub expr_stays : (e : Expr) → Names P e → HasNone (expr_breaches s (unplaced_expr e)) → HasNone (expr_breaches t (unplaced_expr e))
    expr_stays (num k ty) n h = tt
    expr_stays (read x) n h = use_stays x n 0 h
    expr_stays (item x es) n h = (use_stays x n.0 (length (expr_list (unplaced_exprs es))) h.0, exprs_stay es n.1 h.1)
    expr_stays (un op a) n h = expr_stays a n h
    expr_stays (bin op a b) n h = (expr_stays a n.0 h.0, expr_stays b n.1 h.1)
    expr_stays (cond a b c) n h = (expr_stays a n.0 h.0, (expr_stays b n.1 h.1.0, expr_stays c n.2 h.1.1))
    expr_stays (cast ty a) n h = expr_stays a n h

    exprs_stay : (es : Exprs) → NamesEach P es → HasNone (exprs_breaches s (unplaced_exprs es)) → HasNone (exprs_breaches t (unplaced_exprs es))
    exprs_stay no_exprs n h = tt
    exprs_stay (more_exprs e es) n h = (expr_stays e n.0 h.0, exprs_stay es n.1 h.1)

  option_stays : (o : Option Expr) → NamesIf P o → HasNone (option_breaches s (option_map unplaced_expr o)) → HasNone (option_breaches t (option_map unplaced_expr o))
  option_stays None n h = tt
  option_stays (Some e) n h = expr_stays e n h

  target_stays : (a : Target) → NamesIn P a → HasNone (target_breaches s (unplaced_target a)) → HasNone (target_breaches t (unplaced_target a))
  target_stays (target x es) n h =
      (use_stays x n.0 (length (expr_list (unplaced_exprs es))) h.0, (subst (λ o. HasNone (assign_breaches o 0)) (sym (same x n.0)) h.1.0, exprs_stay es n.1 h.1.1))

-- two facts of each name
mutual
  pub both_names : (P Q : Name → Type 0) (e : Expr) → Names P e → Names Q e → Names (λ y. P y × Q y) e
  both_names P Q (num k ty) n m = tt
  both_names P Q (read x) n m = (n, m)
  both_names P Q (item x es) n m = ((n.0, m.0), both_each P Q es n.1 m.1)
  both_names P Q (un op a) n m = both_names P Q a n m
  both_names P Q (bin op a b) n m = (both_names P Q a n.0 m.0, both_names P Q b n.1 m.1)
  both_names P Q (cond a b c) n m = (both_names P Q a n.0 m.0, both_names P Q b n.1 m.1, both_names P Q c n.2 m.2)
  both_names P Q (cast ty a) n m = both_names P Q a n m

  both_each : (P Q : Name → Type 0) (es : Exprs) → NamesEach P es → NamesEach Q es → NamesEach (λ y. P y × Q y) es
  both_each P Q no_exprs n m = tt
  both_each P Q (more_exprs e es) n m = (both_names P Q e n.0 m.0, both_each P Q es n.1 m.1)

-- ---- scopes in which the names of a kind mean the same

-- but one, perhaps, which the second may declare itself
abbrev Others : Option Name → Name → Type 0
Others None y = Unit {0}
Others (Some c) y = Differ c y

abbrev DeclaresOthers : Option Name → Stmt → Type 0
DeclaresOthers None a = Unit {0}
DeclaresOthers (Some c) a = declares_name c a ≡ false

abbrev pub AllDeclareOthers : Option Name → Stmts → Type 0
AllDeclareOthers None as' = Unit {0}
AllDeclareOthers (Some c) as' = declares c as' ≡ false

pub declared_other : (o : Option Name) (a : Stmt) (as' : Stmts) → AllDeclareOthers o (more_stmts a as') → DeclaresOthers o a × AllDeclareOthers o as'
declared_other None a as' h = (tt, tt)
declared_other (Some c) a as' h = by (declares_name c a) refl h
  where
    by : (t : Bool) → declares_name c a ≡ t → (if t then true else declares c as') ≡ false → (declares_name c a ≡ false) × (declares c as' ≡ false)
    by true e k = absurd (cc)
    by false e k = (e, k)

other_name : (o : Option Name) (t : Ty) (x : Name) (e : Option Expr) → DeclaresOthers o (decl t x e) → Others o x
other_name None t x e h = tt
other_name (Some c) t x e h = h

module _ (S : Name → Type 0) where
  pub record Same (s t : Scope) : Type 0 where
    pub meaning : (x : Name) → S x → meaning t x ≡ meaning s x
    pub print_same : t.print_known ≡ s.print_known
    pub input_same : t.input_known ≡ s.input_known

  -- and what the first doesn't declare itself, the second doesn't
  pub record Sees (o : Option Name) (s t : Scope) : Type 0 where
    pub same : Same s t
    pub own : (x : Name) → S x → Others o x → is_some (find x s.here) ≡ false → is_some (find x t.here) ≡ false

  pub same_self : (s : Scope) → Same s s
  same_self s = record { meaning = λ x h. refl; print_same = refl; input_same = refl }

  pub sees_self : (s : Scope) → Sees None s s
  sees_self s = record { same = same_self s; own = λ x h o k. k }

  pub same_inner : (s t : Scope) → Same s t → Same (inner s) (inner t)
  same_inner s t h = record { meaning = λ x p. meaning_inner t x ∙ h.meaning x p ∙ sym (meaning_inner s x); print_same = h.print_same; input_same = h.input_same }

  pub sees_inner : (s t : Scope) → Same s t → Sees None (inner s) (inner t)
  sees_inner s t h = record { same = same_inner s t h; own = λ x p o k. refl }

  pub free_seen : (s t : Scope) (x : Name) → Same s t → S x → (is_some (find x s.here) ≡ false → is_some (find x t.here) ≡ false) → is_taken s x ≡ false → is_taken t x ≡ false
  free_seen s t x h p own free = not_taken t x (own (own_free s x free)) (ap is_define (h.meaning x p) ∙ no_define s x free)

  pub same_declared : (s t : Scope) (x : Name) → Same s t → is_taken s x ≡ false → is_taken t x ≡ false → Same (declare x a_scalar s) (declare x a_scalar t)
  same_declared s t x h free free' = record {
    meaning = λ y p. meaning_declared t x y free' ∙ ap (λ o. if bytes_eq y x then Some a_scalar else o) (h.meaning y p) ∙ sym (meaning_declared s x y free);
    print_same = ap (λ u. u.print_known) (is_added t x free') ∙ h.print_same ∙ sym (ap (λ u. u.print_known) (is_added s x free));
    input_same = ap (λ u. u.input_known) (is_added t x free') ∙ h.input_same ∙ sym (ap (λ u. u.input_known) (is_added s x free));
  }

  pub sees_declared : (o : Option Name) (s t : Scope) (x : Name) → Sees o s t → is_taken s x ≡ false → is_taken t x ≡ false → Sees o (declare x a_scalar s) (declare x a_scalar t)
  sees_declared o s t x h free free' = record {
    same = same_declared s t x h.same free free';
    own = λ y p q k. ap (λ u. is_some (find y u.here)) (is_added t x free') ∙ by y (bytes_eq y x) (h.own y p q) (sym (ap (λ u. is_some (find y u.here)) (is_added s x free)) ∙ k);
  }
    where
      by : (y : Name) (b : Bool) → (is_some (find y s.here) ≡ false → is_some (find y t.here) ≡ false) →
          is_some (if b then Some a_scalar else find y s.here) ≡ false → is_some (if b then Some a_scalar else find y t.here) ≡ false
      by y true own k = k
      by y false own k = own k

  -- ---- statements

  module _ (inside : Bool) where
    pub record SeenStmt (o : Option Name) (il : Bool) (s t : Scope) (a : Stmt) : Type 0 where
      pub none : HasNone (stmt_breaches inside il t (unplaced_stmt a))
      pub after : Sees o (after_stmt s (unplaced_stmt a)) (after_stmt t (unplaced_stmt a))

    decl_seen : (o : Option Name) (il : Bool) (s t : Scope) → Sees o s t → (ty : Ty) (x : Name) (e : Option Expr) → S x → NamesIf S e → Others o x → HasNone (stmt_breaches inside il s (unplaced_stmt (decl ty x e))) → SeenStmt o il s t (decl ty x e)
    decl_seen o il s t sees ty x e p n other h =
        let free : is_taken s x ≡ false = none_if (is_taken s x) N2 0 h.0 in
        let free' = free_seen s t x sees.same p (sees.own x p other) free in
        let after = sees_declared o s t x sees free free' in
        record {
          none = (subst (λ b. HasNone (breach_if b N2 0)) (sym free') tt, option_stays (declare x a_scalar s) (declare x a_scalar t) S after.same.meaning e n h.1);
          after = after;
        }

    mutual
      pub stmt_seen : (a : Stmt) (o : Option Name) (il : Bool) (s t : Scope) → Sees o s t → Uses S S a → IsPlain a → DeclaresOthers o a → HasNone (stmt_breaches inside il s (unplaced_stmt a)) → SeenStmt o il s t a
      stmt_seen (decl ty x e) o il s t k n p d h = decl_seen o il s t k ty x e n.0 n.1 (other_name o ty x e d) h
      stmt_seen (set a op e) o il s t k n p d h = record { none = (target_stays s t S k.same.meaning a n.0 h.0, expr_stays s t S k.same.meaning e n.1 h.1); after = k }
      stmt_seen (step a up) o il s t k n p d h = record { none = target_stays s t S k.same.meaning a n h; after = k }
      stmt_seen (print e) o il s t k n p d h =
          record { none = (subst (λ b. HasNone (breach_if (not b) N1 0)) (sym k.same.print_same) h.0, expr_stays s t S k.same.meaning e n h.1); after = k }
      stmt_seen (input a) o il s t k n p d h =
          record { none = (target_stays s t S k.same.meaning a n h.0, subst (λ b. HasNone (breach_if (not b) N1 0)) (sym k.same.input_same) h.1); after = k }
      stmt_seen (if_ e a) o il s t k n p d h = record { none = (expr_stays s t S k.same.meaning e n.0 h.0, stmts_seen a None il (inner s) (inner t) (sees_inner s t k.same) n.1 p tt h.1); after = k }
      stmt_seen (if_else e a b) o il s t k n p d h =
          record { none = (expr_stays s t S k.same.meaning e n.0 h.0, (stmts_seen a None il (inner s) (inner t) (sees_inner s t k.same) n.1 p.0 tt h.1.0, stmts_seen b None il (inner s) (inner t) (sees_inner s t k.same) n.2 p.1 tt h.1.1)); after = k }
      stmt_seen (while_ e a) o il s t k n p d h = record { none = (expr_stays s t S k.same.meaning e n.0 h.0, stmts_seen a None true (inner s) (inner t) (sees_inner s t k.same) n.1 p tt h.1); after = k }
      stmt_seen (do_ a e) o il s t k n p d h = record { none = (stmts_seen a None true (inner s) (inner t) (sees_inner s t k.same) n.0 p tt h.0, expr_stays s t S k.same.meaning e n.1 h.1); after = k }
      stmt_seen (for_ (head i e next) a) o il s t k n p d h =
          let begin = part_seen i il (inner s) (inner t) (sees_inner s t k.same) n.0 p.0 h.0.0 in
          let s1 = after_part (inner s) (unplaced_part i) in
          let t1 = after_part (inner t) (unplaced_part i) in
          let end = part_seen next il s1 t1 begin.1 n.2 p.1 h.0.1.1 in
          let body = stmts_seen a None true (inner (after_part s1 (unplaced_part next))) (inner (after_part t1 (unplaced_part next))) (sees_inner (after_part s1 (unplaced_part next)) (after_part t1 (unplaced_part next)) end.1.same) n.3 p.2 tt h.1 in
          record { none = ((begin.0, (option_stays s1 t1 S begin.1.same.meaning e n.1 h.0.1.0, end.0)), body); after = k }
      stmt_seen (block a) o il s t k n p d h = record { none = stmts_seen a None il (inner s) (inner t) (sees_inner s t k.same) n p tt h; after = k }
      stmt_seen break_ o il s t k n p d h = record { none = h; after = k }
      stmt_seen continue_ o il s t k n p d h = record { none = h; after = k }
      stmt_seen empty o il s t k n p d h = record { none = tt; after = k }
      stmt_seen (omp d a) o il s t k n p q h = absurd p
      stmt_seen (call x es) o il s t k n p d h = record {
        none = (subst (λ z. HasNone (call_breaches inside z (length (expr_list (unplaced_exprs es))) 0)) (sym (k.same.meaning x n.0)) h.0, exprs_stay s t S k.same.meaning es n.1 h.1);
        after = k;
      }

      part_seen : (i : MaybeStmt) (il : Bool) (s t : Scope) → Sees None s t → UsesIf S S i → MaybePlain i → HasNone (part_breaches inside il s (unplaced_part i)) → HasNone (part_breaches inside il t (unplaced_part i)) × Sees None (after_part s (unplaced_part i)) (after_part t (unplaced_part i))
      part_seen no_stmt il s t k n p h = (tt, k)
      part_seen (a_stmt a) il s t k n p h = let seen = stmt_seen a None il s t k n p tt h in (seen.none, seen.after)

      pub stmts_seen : (as' : Stmts) (o : Option Name) (il : Bool) (s t : Scope) → Sees o s t → UsesAll S S as' → AllPlain as' → AllDeclareOthers o as' → HasNone (stmts_breaches inside il s (unplaced_stmts as')) → HasNone (stmts_breaches inside il t (unplaced_stmts as'))
      stmts_seen no_stmts o il s t k n p d h = tt
      stmts_seen (more_stmts a as') o il s t k n p d h =
          let others = declared_other o a as' d in
          let first = stmt_seen a o il s t k n.0 p.0 others.0 h.0 in
          (first.none, stmts_seen as' o il (after_stmt s (unplaced_stmt a)) (after_stmt t (unplaced_stmt a)) first.after n.1 p.1 others.1 h.1)
