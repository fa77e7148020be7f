-- What the rewrites make of a nest breaks no name rule, and shows what follows what it saw.
use Rattle.std.proofs.Common.{◌≡◌, refl, sym, ◌∙◌, subst, ℕ, zero, suc, Option, None, Bool, true, false}
use Rattle.c_tree.specs.Bare.{Name, Expr, read, bin, Stmts, more_stmts}
use Rattle.c_tree.specs.declared.tree.BinOp.TheVariants.{Add, Sub}
use Rattle.c_tree.specs.NameRules.Scopes.{Scope, is_taken, declare, a_scalar, inner}
use Rattle.c_semantics.specs.Laws.Names.{Names, UsesAll}
use Rattle.c_semantics.specs.Laws.Apart.{Differ}
use Rattle.c_soundness.specs.NeverStuck.{AllPlain}
use Rattle.loop_normal.specs.DrawnNames.{FreshNames}
use Rattle.loop_normal.specs.Gens.{GenLoop, gen_loop, Inner, Nest, Seq, join, let_stmt, counter_loop, loop_stmts, inner_stmts}
use Rattle.loop_normal.proofs.FreshFrames.{differ_sym}
use Rattle.loop_normal.specs.Templates.{ll, only, put_let, rebased, fixed}
use Rattle.nest_normal.specs.NestTexts.{counted_to, at_loop}
use Rattle.permute_reverse.specs.Reversed.{reversed}
use Rattle.template_laws.specs.Names.{ExprBreaksNone, BreaksNone, NeverDrawn, DrawsApart, Unseen, IsOrderly}
use Rattle.template_laws.proofs.Lists.{first_has, second_has, has_loop}
use Rattle.template_laws.proofs.Plain.{AnyName, AnyExpr, AnyNumber, plain_each}
use Rattle.template_laws.proofs.Scopes.{meaning_inner, meaning_other, unseen_free, own_scalar, still_scalar, inner_scalar, scalar_read}
use Rattle.template_laws.proofs.Seen.{expr_stays, AllDeclareOthers, Same, Sees, sees_inner, free_seen, sees_declared, stmts_seen}
use Rattle.template_laws.proofs.LoopNames.{after_all, after_join, join_breaks, first_breaks, second_breaks, others_first, others_second, names_each, LoopBreaksNone, in_loop, of_loop, free_none, New, differs_new, unseen_declared, unseen_inner, unseen_after, sees_after, sees_new, bound_seen, below_new, NewLoop, new_loop}

module _ (f : FreshNames) (inside : Bool) where
  abbrev S : Name → Type 0
  S = NeverDrawn f

  pub record Changed (o : Option Name) (il : Bool) (s t : Scope) (old new : Stmts) : Type 0 where
    pub none : BreaksNone inside il t new
    pub after : Sees S o (after_all s old) (after_all t new)

  -- a list that is seen in two scopes, and breaks none in the first
  pub record Given (o : Option Name) (il : Bool) (s t : Scope) (list : Stmts) : Type 0 where
    pub sees : Sees S o s t
    pub names : UsesAll S S list
    pub plain : AllPlain list
    pub others : AllDeclareOthers o list
    pub none : BreaksNone inside il s list

  pub same_list : (o : Option Name) (il : Bool) (s t : Scope) (list : Stmts) → Given o il s t list → Changed o il s t list list
  same_list o il s t list g = record {
    none = stmts_seen S inside list o il s t g.sees g.names g.plain g.others g.none;
    after = sees_after f inside list o il s t g.sees g.names g.plain g.others g.none;
  }

  pub first_given : (o : Option Name) (il : Bool) (s t : Scope) (a b : Stmts) → Given o il s t (join a b) → Given o il s t a
  first_given o il s t a b g = record {
    sees = g.sees;
    names = first_has S (Names S) AnyNumber (UsesAll S S) (names_each S) a b g.names;
    plain = first_has AnyName AnyExpr AnyNumber AllPlain plain_each a b g.plain;
    others = others_first o a b g.others;
    none = first_breaks inside il a b s g.none;
  }

  -- what follows a changed list
  pub rest_given : (o : Option Name) (il : Bool) (s t u : Scope) (a b : Stmts) → Given o il s t (join a b) → Sees S o (after_all s a) u → Given o il (after_all s a) u b
  rest_given o il s t u a b g sees = record {
    sees = sees;
    names = second_has S (Names S) AnyNumber (UsesAll S S) (names_each S) a b g.names;
    plain = second_has AnyName AnyExpr AnyNumber AllPlain plain_each a b g.plain;
    others = others_second o a b g.others;
    none = second_breaks inside il a b s g.none;
  }

  -- ---- a loop opened: after its declarations

  pub record Opened (o : Option Name) (il : Bool) (s t : Scope) (ls : Stmts) (c : Name) (a b : Expr) (inner' : Inner) : Type 0 where
    pub lets : BreaksNone inside il t ls
    pub sees : Sees S o (after_all s ls) (after_all t ls)
    pub lets_names : UsesAll S S ls
    pub counter : S c
    pub from : Names S a
    pub to : Names S b
    pub names : UsesAll S S (inner_stmts inner')
    pub plain : AllPlain (inner_stmts inner')
    pub loop : LoopBreaksNone inside (after_all s ls) c a b (inner_stmts inner')

  pub opened : (o : Option Name) (il : Bool) (s t : Scope) (ls : Stmts) (c : Name) (a b : Expr) (inner' : Inner) → Given o il s t (loop_stmts (gen_loop ls c a b inner')) → Opened o il s t ls c a b inner'
  opened o il s t ls c a b inner' g =
      let loop = only (counter_loop c a b (inner_stmts inner')) in
      let lets = first_given o il s t ls loop g in
      let kept = same_list o il s t ls lets in
      let names = has_loop S (Names S) AnyNumber (UsesAll S S) (names_each S) ls c a b inner' g.names in
      record {
        lets = kept.none;
        sees = kept.after;
        lets_names = lets.names;
        counter = names.counter;
        from = names.from;
        to = names.to;
        names = names.body;
        plain = (has_loop AnyName AnyExpr AnyNumber AllPlain plain_each ls c a b inner' g.plain).body;
        loop = in_loop inside il (after_all s ls) c a b (inner_stmts inner') (second_breaks inside il ls loop s g.none);
      }

  -- another loop after these declarations
  pub closed : (o : Option Name) (il : Bool) (s t u : Scope) (ls ms : Stmts) (c r : Name) (a b from to : Expr) (inner' below : Inner) → u ≡ after_all t ms → BreaksNone inside il t ms → Sees S o (after_all s ls) u →
      BreaksNone inside il u (only (counter_loop r from to (inner_stmts below))) → Changed o il s t (loop_stmts (gen_loop ls c a b inner')) (loop_stmts (gen_loop ms r from to below))
  closed o il s t u ls ms c r a b from to inner' below e lets sees loop =
      let new = only (counter_loop r from to (inner_stmts below)) in
      let old = only (counter_loop c a b (inner_stmts inner')) in
      record {
        none = join_breaks inside il ms new t lets (subst (λ z. BreaksNone inside il z new) e loop);
        after = subst (λ z. Sees S o z (after_all t (join ms new))) (sym (after_join ls old s)) (subst (λ z. Sees S o (after_all s ls) z) (e ∙ sym (after_join ms new t)) sees);
      }

  -- ---- changes

  abbrev pub Changes : (GenLoop → GenLoop) → Type 0
  Changes h = (o : Option Name) (il : Bool) (s t : Scope) (l : GenLoop) → IsOrderly l → Unseen f t → Given o il s t (loop_stmts l) → Changed o il s t (loop_stmts l) (loop_stmts (h l))

  -- a bound read below the new loop, or in its head
  below_bound : (k : ℕ) (s u : Scope) (c : Name) (e : Expr) → Names S e → Names (λ y. Differ y c) e → ExprBreaksNone (declare c a_scalar (inner s)) e → NewLoop f inside k s u c → ExprBreaksNone (declare c a_scalar (below_new f inside k u)) e
  below_bound k s u c e n m h new = bound_seen f inside s (declare c a_scalar (below_new f inside k u)) c e n m h (λ y p d. meaning_other (below_new f inside k u) c y d ∙ new.same y p)

  head_bound : (k : ℕ) (s u : Scope) (c : Name) (e : Expr) → Same S s u → Names S e → Names (λ y. Differ y c) e → ExprBreaksNone (declare c a_scalar (inner s)) e → ExprBreaksNone (declare (New f inside k) a_scalar (inner u)) e
  head_bound k s u c e same n m h =
      bound_seen f inside s (declare (New f inside k) a_scalar (inner u)) c e n m h (λ y p d. meaning_other (inner u) (New f inside k) y (differs_new f inside k y p) ∙ meaning_inner u y ∙ same.meaning y p)

  -- the new counter below its loop, where the old one is declared
  below_counter : (k : ℕ) (s u : Scope) (c : Name) → S c → NewLoop f inside k s u c → ExprBreaksNone (declare c a_scalar (below_new f inside k u)) (read (New f inside k))
  below_counter k s u c pc new =
      scalar_read (declare c a_scalar (below_new f inside k u)) (New f inside k)
      (still_scalar (below_new f inside k u) c (New f inside k) (pc k) (inner_scalar (declare (New f inside k) a_scalar (inner u)) (New f inside k) (own_scalar (inner u) (New f inside k) new.free)))

  pub reversed_changes : (k : ℕ) → Changes (reversed (New f inside k))
  reversed_changes k o il s t (gen_loop ls c a b inner') orderly unseen g =
      let w = opened o il s t ls c a b inner' g in
      let r = New f inside k in
      let s1 = after_all s ls in
      let t1 = after_all t ls in
      let e = bin Sub (bin Sub b (ll 1)) (read r) in
      closed o il s t t1 ls ls c r a b (ll 0) b inner' (put_let (let_stmt c e) inner') refl w.lets w.sees
      (new_loop f inside il k s1 t1 c a b inner' w.sees.same (unseen_after f inside ls t w.lets_names unseen k) w.counter w.names w.plain orderly.2 w.loop b e
      (λ new. head_bound k s1 t1 c b w.sees.same w.to orderly.1 w.loop.to)
      (λ new. ((below_bound k s1 t1 c b w.to orderly.1 w.loop.to new, tt), below_counter k s1 t1 c w.counter new)))

  pub fixed_changes : (n k : ℕ) → Changes (fixed n (New f inside k))
  fixed_changes n k o il s t (gen_loop ls c a b inner') orderly unseen g =
      let w = opened o il s t ls c a b inner' g in
      let r = New f inside k in
      let s1 = after_all s ls in
      let t1 = after_all t ls in
      let e = bin Add a (read r) in
      closed o il s t t1 ls ls c r a b (ll 0) (ll n) inner' (put_let (let_stmt c e) inner') refl w.lets w.sees
      (new_loop f inside il k s1 t1 c a b inner' w.sees.same (unseen_after f inside ls t w.lets_names unseen k) w.counter w.names w.plain orderly.2 w.loop (ll n) e
      (λ new. tt)
      (λ new. (below_bound k s1 t1 c a w.from orderly.0 w.loop.from new, below_counter k s1 t1 c w.counter new)))

  -- the loop itself, to another end and with another list below it
  pub kept_loop : (il : Bool) (s t : Scope) (c : Name) (a b : Expr) (list : Stmts) → Same S s t → S c → Names S a → LoopBreaksNone inside s c a b list → (to : Expr) (new : Stmts) →
      (Sees S None (inner (declare c a_scalar (inner s))) (inner (declare c a_scalar (inner t))) → is_taken (inner t) c ≡ false → ExprBreaksNone (declare c a_scalar (inner t)) to × BreaksNone inside true (inner (declare c a_scalar (inner t))) new) →
      BreaksNone inside il t (only (counter_loop c a to new))
  kept_loop il s t c a b list same pc n h to new go =
      let head = sees_inner S s t same in
      let free = free_seen S (inner s) (inner t) c head.same pc (head.own c pc tt) h.free in
      let own = sees_declared S None (inner s) (inner t) c head h.free free in
      let all = go (sees_inner S (declare c a_scalar (inner s)) (declare c a_scalar (inner t)) own.same) free in
      of_loop inside il t c a to new (record {
        free = free;
        from = expr_stays (declare c a_scalar (inner s)) (declare c a_scalar (inner t)) S own.same.meaning a n h.from;
        to = all.0;
        below = all.1;
      })

  pub to_literal_changes : (n : ℕ) → Changes (counted_to n None)
  to_literal_changes n o il s t (gen_loop ls c a b inner') orderly unseen g =
      let w = opened o il s t ls c a b inner' g in
      let s1 = after_all s ls in
      let t1 = after_all t ls in
      closed o il s t t1 ls ls c c a b a (ll n) inner' inner' refl w.lets w.sees
      (kept_loop il s1 t1 c a b (inner_stmts inner') w.sees.same w.counter w.from w.loop (ll n) (inner_stmts inner') (λ sees free. (
        tt,
        stmts_seen S inside (inner_stmts inner') None true (inner (declare c a_scalar (inner s1))) (inner (declare c a_scalar (inner t1))) sees w.names w.plain tt w.loop.below,
      )))

  pub at_loop_changes : (d : ℕ) (h : GenLoop → GenLoop) → Changes h → Changes (at_loop d h)
  at_loop_changes zero h changes o il s t l orderly unseen g = changes o il s t l orderly unseen g
  at_loop_changes (suc d) h changes o il s t (gen_loop ls c a b (Seq ps)) orderly unseen g = same_list o il s t _ g
  at_loop_changes (suc d) h changes o il s t (gen_loop ls c a b (Nest l)) orderly unseen g =
      let w = opened o il s t ls c a b (Nest l) g in
      let s1 = after_all s ls in
      let t1 = after_all t ls in
      closed o il s t t1 ls ls c c a b a b (Nest l) (Nest (at_loop d h l)) refl w.lets w.sees
      (kept_loop il s1 t1 c a b (loop_stmts l) w.sees.same w.counter w.from w.loop b (loop_stmts (at_loop d h l)) (λ sees free. (
        expr_stays (declare c a_scalar (inner s1)) (declare c a_scalar (inner t1)) S (sees_declared S None (inner s1) (inner t1) c (sees_inner S s1 t1 w.sees.same) w.loop.free free).same.meaning b w.to w.loop.to,
        (at_loop_changes d h changes None true (inner (declare c a_scalar (inner s1))) (inner (declare c a_scalar (inner t1))) l orderly.3 (unseen_inner f inside (declare c a_scalar (inner t1)) (unseen_declared f inside (inner t1) c w.counter (unseen_inner f inside t1 (unseen_after f inside ls t w.lets_names unseen)))) (record {
          sees = sees;
          names = w.names;
          plain = w.plain;
          others = tt;
          none = w.loop.below;
        })).none,
      )))

  -- ---- the loop brought to begin at 0

  module _ (apart : DrawsApart f) where
    pub rebased_changes : Changes (rebased (New f inside 0) (New f inside 1) (New f inside 2))
    rebased_changes o il s t (gen_loop ls c a b inner') orderly unseen g =
        let w = opened o il s t ls c a b inner' g in
        let x = New f inside 0 in
        let y = New f inside 1 in
        let r = New f inside 2 in
        let s1 = after_all s ls in
        let t1 = after_all t ls in
        let unseen1 = unseen_after f inside ls t w.lets_names unseen in
        let x_free = unseen_free t1 x (unseen1 0) in
        let t2 = declare x a_scalar t1 in
        let y_apart : Differ y x = apart 0 0 in
        let y_unseen = meaning_other t1 x y y_apart ∙ unseen1 1 in
        let y_free = unseen_free t2 y y_unseen in
        let t3 = declare y a_scalar t2 in
        let x_scalar = still_scalar t2 y x (differ_sym y x y_apart) (own_scalar t1 x x_free) in
        let sees = sees_new f inside 1 o s1 t2 (sees_new f inside 0 o s1 t1 w.sees x_free) y_free in
        let r_unseen = meaning_other t2 y r (apart 1 0) ∙ meaning_other t1 x r (apart 0 1) ∙ unseen1 2 in
        let a_none = bound_seen f inside s1 t2 c a w.from orderly.0 w.loop.from (λ z p d. meaning_other t1 x z (differs_new f inside 0 z p) ∙ w.sees.same.meaning z p) in
        let b_none = bound_seen f inside s1 t3 c b w.to orderly.1 w.loop.to (λ z p d. sees.same.meaning z p) in
        let two = more_stmts (let_stmt x a) (only (let_stmt y (bin Sub b (read x)))) in
        let two_none : BreaksNone inside il t1 two = ((free_none t1 x x_free, a_none), ((free_none t2 y y_free, (b_none, scalar_read t3 x x_scalar)), tt)) in
        let e = bin Add (read x) (read r) in
        closed o il s t t3 ls (join ls two) c r a b (ll 0) (read y) inner' (put_let (let_stmt c e) inner') (sym (after_join ls two t)) (join_breaks inside il ls two t w.lets two_none) sees
        (new_loop f inside il 2 s1 t3 c a b inner' sees.same r_unseen w.counter w.names w.plain orderly.2 w.loop (read y) e
        (λ new. scalar_read (declare r a_scalar (inner t3)) y (still_scalar (inner t3) r y (differ_sym r y (apart 1 0)) (inner_scalar t3 y (own_scalar t2 y y_free))))
        (λ new. (
          scalar_read (declare c a_scalar (below_new f inside 2 t3)) x
              (still_scalar (below_new f inside 2 t3) c x (w.counter 0) (inner_scalar (declare r a_scalar (inner t3)) x (still_scalar (inner t3) r x (differ_sym r x (apart 0 1)) (inner_scalar t3 x x_scalar)))),
          below_counter 2 s1 t3 c w.counter new,
        )))
