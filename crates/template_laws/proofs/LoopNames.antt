-- Generated loops break no name rule where the loops that they are made of break none.
use Rattle.std.proofs.Common.{◌≡◌, refl, sym, ap, ◌∙◌, subst, ℕ, Option, Some, None, Bool, true, false}
use Rattle.std.specs.Prelude.{bytes_eq, is_some, if◌then◌else◌}
use Rattle.c_tree.specs.Bare.{Name, Expr, Stmt, decl, Stmts, no_stmts, more_stmts}
use Rattle.c_tree.specs.declared.name_rule.NameRule.TheVariants.{N2}
use Rattle.c_tree.specs.NameRules.BreachSets.{HasNone}
use Rattle.c_tree.specs.NameRules.Scopes.{Scope, find, meaning, is_define, is_taken, declare, a_scalar, inner, after_stmt}
use Rattle.c_tree.specs.NameRules.Breaches.{breach_if}
use Rattle.c_semantics.specs.Laws.Names.{Names, UsesAll}
use Rattle.c_semantics.specs.Laws.Apart.{Differ}
use Rattle.c_soundness.specs.NeverStuck.{AllPlain}
use Rattle.c_soundness.specs.Unplaced.{unplaced_stmt}
use Rattle.c_soundness.proofs.Fits.{none_if}
use Rattle.loop_normal.specs.DrawnNames.{FreshNames, drawn, after_draws}
use Rattle.loop_normal.specs.Gens.{gen_loop, Inner, Nest, Seq, join, let_stmt, counter_loop, inner_stmts}
use Rattle.loop_normal.specs.Templates.{ll, only, put_let}
use Rattle.loop_normal.proofs.FreshFrames.{differ_sym}
use Rattle.nest_normal.specs.NestTexts.{declares}
use Rattle.template_laws.specs.Names.{ExprBreaksNone, BreaksNone, NeverDrawn, Unseen}
use Rattle.template_laws.proofs.Lists.{IsEach}
use Rattle.template_laws.proofs.Plain.{AnyNumber}
use Rattle.template_laws.proofs.Scopes.{meaning_inner, is_added, meaning_declared, meaning_other, not_taken, no_define, unseen_free, own_scalar, scalar_read, scalar_assigned}
use Rattle.template_laws.proofs.Seen.{expr_stays, both_names, AllDeclareOthers, Same, Sees, stmt_seen, stmts_seen, declared_other}

-- ---- one list after another

abbrev pub after_all : Scope → Stmts → Scope
after_all s no_stmts = s
after_all s (more_stmts a as') = after_all (after_stmt s (unplaced_stmt a)) as'

pub after_join : (a b : Stmts) (s : Scope) → after_all s (join a b) ≡ after_all (after_all s a) b
after_join no_stmts b s = refl
after_join (more_stmts a as') b s = after_join as' b (after_stmt s (unplaced_stmt a))

module _ (inside il : Bool) where
  pub join_breaks : (a b : Stmts) (s : Scope) → BreaksNone inside il s a → BreaksNone inside il (after_all s a) b → BreaksNone inside il s (join a b)
  join_breaks no_stmts b s h k = k
  join_breaks (more_stmts a as') b s h k = (h.0, join_breaks as' b (after_stmt s (unplaced_stmt a)) h.1 k)

  pub first_breaks : (a b : Stmts) (s : Scope) → BreaksNone inside il s (join a b) → BreaksNone inside il s a
  first_breaks no_stmts b s h = tt
  first_breaks (more_stmts a as') b s h = (h.0, first_breaks as' b (after_stmt s (unplaced_stmt a)) h.1)

  pub second_breaks : (a b : Stmts) (s : Scope) → BreaksNone inside il s (join a b) → BreaksNone inside il (after_all s a) b
  second_breaks no_stmts b s h = h
  second_breaks (more_stmts a as') b s h = second_breaks as' b (after_stmt s (unplaced_stmt a)) h.1

pub others_first : (o : Option Name) (a b : Stmts) → AllDeclareOthers o (join a b) → AllDeclareOthers o a
others_first None a b h = tt
others_first (Some c) no_stmts b h = refl
others_first (Some c) (more_stmts a as') b h =
    let k = declared_other (Some c) a (join as' b) h in
    subst (λ t. (if t then true else declares c as') ≡ false) (sym k.0) (others_first (Some c) as' b k.1)

pub others_second : (o : Option Name) (a b : Stmts) → AllDeclareOthers o (join a b) → AllDeclareOthers o b
others_second None a b h = tt
others_second (Some c) no_stmts b h = h
others_second (Some c) (more_stmts a as') b h = others_second (Some c) as' b (declared_other (Some c) a (join as' b) h).1

-- the names of statements, as what holds of each
pub names_each : (S : Name → Type 0) → IsEach S (Names S) AnyNumber (UsesAll S S)
names_each S = record {
  none = tt;
  more = λ a as' h k. (h.0, k);
  first = λ a as' h. (h.0, tt);
  rest = λ a as' h. h.1;
  let_of = λ T x e h k. ((h, k), tt);
  block_of = λ as' h. (h, tt);
  loop_of = λ c a b body hc ha hb h. (((hc, ha), (hc, hb), (hc, tt), h), tt);
  in_loop = λ c a b body h. record { lets = tt; counter = h.0.0.0; from = h.0.0.1; to = h.0.1.1; body = h.0.3 };
  literal = λ k h. tt;
  zero = tt;
  one = tt;
  name = λ x h. h;
  negated = λ e h. h;
  both = λ op a b h k. (h, k);
  choice = λ a b c h k l. (h, k, l);
  converted = λ T e h. h;
}

-- ---- a loop, by its parts

pub record LoopBreaksNone (inside : Bool) (s : Scope) (c : Name) (a b : Expr) (list : Stmts) : Type 0 where
  pub free : is_taken (inner s) c ≡ false
  pub from : ExprBreaksNone (declare c a_scalar (inner s)) a
  pub to : ExprBreaksNone (declare c a_scalar (inner s)) b
  pub below : BreaksNone inside true (inner (declare c a_scalar (inner s))) list

pub in_loop : (inside il : Bool) (s : Scope) (c : Name) (a b : Expr) (list : Stmts) → BreaksNone inside il s (only (counter_loop c a b list)) → LoopBreaksNone inside s c a b list
in_loop inside il s c a b list h = record { free = none_if (is_taken (inner s) c) N2 0 h.0.0.0.0; from = h.0.0.0.1; to = h.0.0.1.0.1; below = h.0.1 }

pub free_none : (s : Scope) (x : Name) → is_taken s x ≡ false → HasNone (breach_if (is_taken s x) N2 0)
free_none s x h = subst (λ b. HasNone (breach_if b N2 0)) (sym h) tt

pub of_loop : (inside il : Bool) (s : Scope) (c : Name) (a b : Expr) (list : Stmts) → LoopBreaksNone inside s c a b list → BreaksNone inside il s (only (counter_loop c a b list))
of_loop inside il s c a b list h =
    let d = declare c a_scalar (inner s) in
    let own = own_scalar (inner s) c h.free in
    let reads = scalar_read d c own in
    ((((free_none (inner s) c h.free, h.from), ((reads, h.to), (reads, (scalar_assigned d c own, tt)))), h.below), tt)

module _ (f : FreshNames) (inside : Bool) where
  abbrev pub New : ℕ → Name
  New k = drawn (after_draws k f)

  pub differs_new : (k : ℕ) (y : Name) → NeverDrawn f y → Differ y (New k)
  differs_new k y h = differ_sym (New k) y (h k)

  -- ---- names that aren't seen yet

  pub unseen_declared : (s : Scope) (c : Name) → NeverDrawn f c → Unseen f s → Unseen f (declare c a_scalar s)
  unseen_declared s c h u k = meaning_other s c (New k) (h k) ∙ u k

  pub unseen_inner : (s : Scope) → Unseen f s → Unseen f (inner s)
  unseen_inner s u k = meaning_inner s (New k) ∙ u k

  unseen_stmt : (s : Scope) (a : Stmt) → UsesAll (NeverDrawn f) (NeverDrawn f) (only a) → Unseen f s → Unseen f (after_stmt s (unplaced_stmt a))
  unseen_stmt s (decl t x e) h u = unseen_declared s x h.0.0 u
  unseen_stmt s a h u = u

  pub unseen_after : (as' : Stmts) (s : Scope) → UsesAll (NeverDrawn f) (NeverDrawn f) as' → Unseen f s → Unseen f (after_all s as')
  unseen_after no_stmts s h u = u
  unseen_after (more_stmts a as') s h u = unseen_after as' (after_stmt s (unplaced_stmt a)) h.1 (unseen_stmt s a (h.0, tt) u)

  pub sees_after : (as' : Stmts) (o : Option Name) (il : Bool) (s t : Scope) → Sees (NeverDrawn f) o s t → UsesAll (NeverDrawn f) (NeverDrawn f) as' → AllPlain as' → AllDeclareOthers o as' → BreaksNone inside il s as' → Sees (NeverDrawn f) o (after_all s as') (after_all t as')
  sees_after no_stmts o il s t k n p d h = k
  sees_after (more_stmts a as') o il s t k n p d h =
      let others = declared_other o a as' d in
      let first = stmt_seen (NeverDrawn f) inside a o il s t k n.0 p.0 others.0 h.0 in
      sees_after as' o il (after_stmt s (unplaced_stmt a)) (after_stmt t (unplaced_stmt a)) first.after n.1 p.1 others.1 h.1

  -- a new name more
  pub sees_new : (k : ℕ) (o : Option Name) (s t : Scope) → Sees (NeverDrawn f) o s t → is_taken t (New k) ≡ false → Sees (NeverDrawn f) o s (declare (New k) a_scalar t)
  sees_new k o s t h free = record {
    same = record {
      meaning = λ y p. meaning_other t (New k) y (differs_new k y p) ∙ h.same.meaning y p;
      print_same = ap (λ z. z.print_known) (is_added t (New k) free) ∙ h.same.print_same;
      input_same = ap (λ z. z.input_known) (is_added t (New k) free) ∙ h.same.input_same;
    };
    own = λ y p q e. ap (λ z. is_some (find y z.here)) (is_added t (New k) free) ∙ ap (λ b. is_some (if b then Some a_scalar else find y t.here)) (differs_new k y p) ∙ h.own y p q e;
  }

  -- ---- another loop round the same list

  -- a bound that doesn't name the counter, outside of the head
  pub bound_seen : (s v : Scope) (c : Name) (e : Expr) → Names (NeverDrawn f) e → Names (λ y. Differ y c) e → ExprBreaksNone (declare c a_scalar (inner s)) e →
      ((y : Name) → NeverDrawn f y → Differ y c → meaning v y ≡ meaning s y) → ExprBreaksNone v e
  bound_seen s v c e n m h same =
      expr_stays (declare c a_scalar (inner s)) v (λ y. NeverDrawn f y × Differ y c) (λ y p. same y p.0 p.1 ∙ sym (meaning_other (inner s) c y p.1 ∙ meaning_inner s y)) e
      (both_names (NeverDrawn f) (λ y. Differ y c) e n m) h

  let_breaks : (il : Bool) (v : Scope) (d : Stmt) (inner : Inner) → BreaksNone inside il v (more_stmts d (inner_stmts inner)) → BreaksNone inside il v (inner_stmts (put_let d inner))
  let_breaks il v d (Nest (gen_loop ls c a b inner)) h = h
  let_breaks il v d (Seq ps) h = h

  -- the scope below the new loop, before the old counter is declared there
  abbrev pub below_new : ℕ → Scope → Scope
  below_new k u = inner (declare (New k) a_scalar (inner u))

  pub record NewLoop (k : ℕ) (s u : Scope) (c : Name) : Type 0 where
    pub free : is_taken (inner u) (New k) ≡ false
    pub same : (y : Name) → NeverDrawn f y → meaning (below_new k u) y ≡ meaning s y
    pub old_free : is_taken (below_new k u) c ≡ false

  pub new_scope : (k : ℕ) (s u : Scope) (c : Name) → Same (NeverDrawn f) s u → meaning u (New k) ≡ None → NeverDrawn f c → is_taken (inner s) c ≡ false → NewLoop k s u c
  new_scope k s u c same unseen pc free =
      let means = λ (y : Name) (p : NeverDrawn f y).
      meaning_inner (declare (New k) a_scalar (inner u)) y ∙ meaning_other (inner u) (New k) y (differs_new k y p) ∙ meaning_inner u y ∙ same.meaning y p in
      record {
        free = unseen_free (inner u) (New k) (meaning_inner u (New k) ∙ unseen);
        same = means;
        old_free = not_taken (below_new k u) c refl (ap is_define (means c pc ∙ sym (meaning_inner s c)) ∙ no_define (inner s) c free);
      }

  -- below it, with the old counter declared, the list sees what it saw
  list_sees : (k : ℕ) (s u : Scope) (c : Name) → Same (NeverDrawn f) s u → NewLoop k s u c → is_taken (inner s) c ≡ false →
      Sees (NeverDrawn f) (Some c) (inner (declare c a_scalar (inner s))) (declare c a_scalar (below_new k u))
  list_sees k s u c same new free =
      let b = below_new k u in
      let d = declare c a_scalar (inner s) in
      record {
        same = record {
          meaning = λ y p. meaning_declared b c y new.old_free ∙ ap (λ o. if bytes_eq y c then Some a_scalar else o) (new.same y p ∙ sym (meaning_inner s y)) ∙ sym (meaning_inner d y ∙ meaning_declared (inner s) c y free);
          print_same = ap (λ z. z.print_known) (is_added b c new.old_free) ∙ ap (λ z. z.print_known) (is_added (inner u) (New k) new.free) ∙ same.print_same ∙ sym (ap (λ z. z.print_known) (is_added (inner s) c free));
          input_same = ap (λ z. z.input_known) (is_added b c new.old_free) ∙ ap (λ z. z.input_known) (is_added (inner u) (New k) new.free) ∙ same.input_same ∙ sym (ap (λ z. z.input_known) (is_added (inner s) c free));
        };
        own = λ y p q h. ap (λ z. is_some (find y z.here)) (is_added b c new.old_free) ∙ ap (λ t. is_some (if t then Some a_scalar else None)) (differ_sym c y q);
      }

  pub new_loop : (il : Bool) (k : ℕ) (s u : Scope) (c : Name) (a b : Expr) (inner' : Inner) → Same (NeverDrawn f) s u → meaning u (New k) ≡ None → NeverDrawn f c →
      UsesAll (NeverDrawn f) (NeverDrawn f) (inner_stmts inner') → AllPlain (inner_stmts inner') → declares c (inner_stmts inner') ≡ false → LoopBreaksNone inside s c a b (inner_stmts inner') →
      (to e : Expr) → (NewLoop k s u c → ExprBreaksNone (declare (New k) a_scalar (inner u)) to) → (NewLoop k s u c → ExprBreaksNone (declare c a_scalar (below_new k u)) e) →
      BreaksNone inside il u (only (counter_loop (New k) (ll 0) to (inner_stmts (put_let (let_stmt c e) inner'))))
  new_loop il k s u c a b inner' same unseen pc n p d h to e to_none e_none =
      let new = new_scope k s u c same unseen pc h.free in
      let sees = list_sees k s u c same new h.free in
      let list = stmts_seen (NeverDrawn f) inside (inner_stmts inner') (Some c) true (inner (declare c a_scalar (inner s))) (declare c a_scalar (below_new k u)) sees n p d h.below in
      of_loop inside il u (New k) (ll 0) to (inner_stmts (put_let (let_stmt c e) inner')) (record {
        free = new.free;
        from = tt;
        to = to_none new;
        below = let_breaks true (below_new k u) (let_stmt c e) inner' ((free_none (below_new k u) c new.old_free, e_none new), list);
      })
