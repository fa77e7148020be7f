-- What statements of several parts touch, by what their parts touch.
use Rattle.std.proofs.Common.{◌≡◌, ◌∙◌, sym, ap, subst, ℕ, ◌≤◌, List, ◌∷◌, length, append_assoc, Option, Some}
use Rattle.std.specs.Option.{option_map}
use Rattle.c_tree.specs.Bare as b
use Rattle.c_tree.specs.Bare.{Name}
use Rattle.c_tree.specs.BareOf as bare
use Rattle.c_tree.specs.BareOf.{bare_expr, bare_stmt, bare_stmts, bare_head, maybe_stmt}
use Rattle.c_tree.specs.declared.tree.Expr.{Expr}
use Rattle.c_tree.specs.declared.tree.Span.{Span}
use Rattle.c_tree.specs.declared.tree.Stmt.{Stmt, fold-roll-Stmt}
use Rattle.c_tree.specs.declared.tree.Stmt.TheVariants as v
use Rattle.c_tree.specs.declared.tree.Stmt.TheOpen as s
use Rattle.c_tree.specs.declared.tree.ForHead.{ForHead, out-ForHead}
use Rattle.c_tree.proofs.Heads.{bare_head_out}
use Rattle.c_semantics.specs.Meaning.Expressions.{Define}
use Rattle.c_semantics.specs.Meaning.State.{keep}
use Rattle.c_semantics.specs.Meaning.FileVariables.{Access, FunctionAccess, both, reading, free_names, free_names_if, scope_in, accesses, all_accesses, maybe_accesses}
use Rattle.c_semantics.specs.Meaning.FileVariables as files
use Rattle.c_semantics.specs.Loops.CanonicalForm.{Canonical}
use Rattle.loop_heads.specs.Affected.{head_scope, head_access, body_access, for_access}
use Rattle.loop_heads.specs.Touching.{Gains}
use Rattle.loop_heads.proofs.Touches.{gains_both}
use Rattle.loop_heads.proofs.Scopes.{last_left, kept_under, extends_in}

both_joins : (x y z : Access) → both (both x y) z ≡ both x (both y z)
both_joins x y z = λ i. record { reads = append_assoc x.reads y.reads z.reads i; assigns = append_assoc x.assigns y.assigns z.assigns i }

module _ (ds : List Define) (fs : List FunctionAccess) (h : List Name) where
  pub if_else_gains : (stmt : Stmt) (e : Expr) (ys ns : List Stmt) (at : Span) → stmt ≡ v.If e ys (Some ns) at → (xs zs : List Stmt) → xs ≡ ys → zs ≡ ns → (u : List Name) → u ≡ h → (p q r : Access)
      → Gains p (both (reading (free_names h (bare_expr e))) (all_accesses ds fs h (bare_stmts xs))) q → Gains q (all_accesses ds fs u (bare_stmts zs)) r
      → Gains p (accesses ds fs h (bare_stmt stmt)) r
  if_else_gains stmt e ys ns at is xs zs is_y is_n u same p q r first second =
      let tree : bare_stmt stmt ≡ b.if_else (bare_expr e) (bare_stmts ys) (bare_stmts ns) =
      ap bare_stmt is ∙ (ap bare_stmt (sym (v.rolls-If e ys (Some ns) at)) ∙ fold-roll-Stmt b.Stmt b.Head bare.stmt_layer bare.head_layer (s.If e ys (Some ns) at)) in
      let t = reading (free_names h (bare_expr e)) in
      let all = λ (zs : List Stmt). all_accesses ds fs h (bare_stmts zs) in
      let one : Gains q (all ns) r = subst (λ zs. Gains q (all zs) r) is_n (subst (λ w. Gains q (all_accesses ds fs w (bare_stmts zs)) r) same second) in
      let two : Gains p (both t (all ys)) q = subst (λ zs. Gains p (both t (all zs)) q) is_y first in
      subst (λ z. Gains p (accesses ds fs h z) r) (sym tree)
      (subst (λ z. Gains p z r) (both_joins t (all ys) (all ns)) (gains_both p q r (both t (all ys)) (all ns) two one))

  for_splits : (d : b.Head) (a : b.Stmts) → both (head_access ds fs h d) (all_accesses ds fs (head_scope h d) a) ≡ accesses ds fs h (b.for_ d a)
  for_splits (b.head i e next) a =
      let first = maybe_accesses ds fs h i in
      let second = reading (free_names_if (scope_in i h) e) in
      let third = maybe_accesses ds fs (scope_in i h) next in
      let fourth = all_accesses ds fs (scope_in i h) a in
      both_joins first (both second third) fourth ∙ ap (both first) (both_joins second third fourth)

  pub for_gains : (stmt : Stmt) (d : ForHead) (body : List Stmt) (at : Span) → stmt ≡ v.For d body at → (xs : List Stmt) → xs ≡ body → (u : List Name) → u ≡ head_scope h (bare_head d) → (p q r : Access)
      → Gains p (head_access ds fs h (bare_head d)) q → Gains q (all_accesses ds fs u (bare_stmts xs)) r → Gains p (accesses ds fs h (bare_stmt stmt)) r
  for_gains stmt d body at is xs all u scope p q r first second =
      let tree : bare_stmt stmt ≡ b.for_ (bare_head d) (bare_stmts body) =
      ap bare_stmt is ∙ (ap bare_stmt (sym (v.rolls-For d body at)) ∙ fold-roll-Stmt b.Stmt b.Head bare.stmt_layer bare.head_layer (s.For d body at)) in
      let inside = λ (w : List Name) (zs : List Stmt). all_accesses ds fs w (bare_stmts zs) in
      let one : Gains q (inside (head_scope h (bare_head d)) body) r = subst (λ zs. Gains q (inside (head_scope h (bare_head d)) zs) r) all (subst (λ w. Gains q (inside w xs) r) scope second) in
      subst (λ z. Gains p (accesses ds fs h z) r) (sym tree)
      (subst (λ z. Gains p z r) (for_splits (bare_head d) (bare_stmts body))
      (gains_both p q r (head_access ds fs h (bare_head d)) (inside (head_scope h (bare_head d)) body) first one))

  module _ (d : ForHead) where
    abbrev begin : b.MaybeStmt
    begin = maybe_stmt (option_map bare_stmt (out-ForHead d).init)

    abbrev test : Option b.Expr
    test = option_map bare_expr (out-ForHead d).test

    abbrev end : b.MaybeStmt
    end = maybe_stmt (option_map bare_stmt (out-ForHead d).step)

    pub head_gains : (u w : List Name) → w ≡ h → u ≡ scope_in begin w → (p q r t : Access)
        → Gains p (maybe_accesses ds fs h begin) q → Gains q (reading (free_names_if u test)) r → Gains r (maybe_accesses ds fs u end) t
        → Gains p (head_access ds fs h (bare_head d)) t
    head_gains u w same scope p q r t first second third =
        let inside : u ≡ scope_in begin h = scope ∙ ap (scope_in begin) same in
        let two : Gains q (reading (free_names_if (scope_in begin h) test)) r = subst (λ z. Gains q (reading (free_names_if z test)) r) inside second in
        let three : Gains r (maybe_accesses ds fs (scope_in begin h) end) t = subst (λ z. Gains r (maybe_accesses ds fs z end) t) inside third in
        subst (λ z. Gains p (head_access ds fs h z) t) (sym (bare_head_out d))
        (gains_both p q t (maybe_accesses ds fs h begin) (both (reading (free_names_if (scope_in begin h) test)) (maybe_accesses ds fs (scope_in begin h) end)) first
        (gains_both q r t (reading (free_names_if (scope_in begin h) test)) (maybe_accesses ds fs (scope_in begin h) end) two three))

  pub canonical_gains : (c : Option Canonical) (l : Canonical) → Some l ≡ c → (n m : ℕ) → n ≤ length h → (body : b.Stmts) (u : List Name) → u ≡ l.var ∷ h → (p q r : Access)
      → Gains p (files.head_access (keep n h) (Some l)) q → Gains q (body_access ds fs (keep n u) u m body) r → Gains p (for_access ds fs (keep n h) h m body c) r
  canonical_gains c l is n m within body u scope p q r first second =
      let two : Gains q (body_access ds fs (keep n (l.var ∷ h)) (l.var ∷ h) m body) r = subst (λ z. Gains q (body_access ds fs (keep n z) z m body) r) scope second in
      let three : Gains q (body_access ds fs (keep n h) (l.var ∷ h) m body) r = subst (λ z. Gains q (body_access ds fs z (l.var ∷ h) m body) r) (kept_under h l.var n within) two in
      subst (λ z. Gains p (for_access ds fs (keep n h) h m body z) r) is
      (gains_both p q r (files.head_access (keep n h) (Some l)) (body_access ds fs (keep n h) (l.var ∷ h) m body) first three)

kept_in : (h : List Name) (d : b.Head) → keep (length h) (head_scope h d) ≡ h
kept_in h (b.head i e next) = (extends_in h i).kept

pub head_left : (h u now new : List Name) (d : b.Head) (n : ℕ) → n ≡ length h → u ≡ head_scope h d → now ≡ u → new ≡ keep n now → new ≡ h
head_left h u now new d n len scope same kept = kept ∙ ((λ j. keep (len j) ((same ∙ scope) j)) ∙ kept_in h d)

pub name_left : (h u now new : List Name) (x : Name) (n : ℕ) → n ≡ length h → u ≡ x ∷ h → now ≡ u → new ≡ keep n now → new ≡ h
name_left h u now new x n len scope same kept = kept ∙ (ap (keep n) (same ∙ scope) ∙ last_left h x n len)
