-- The normal form of a loop, alone or round a nest, breaks no name rule.
use Rattle.std.proofs.Common.{◌≡◌, refl, sym, ap, ◌∙◌, ℕ, Option, Some, None, Bool, true, false, ℤ, nat_abs}
use Rattle.std.specs.Prelude.{if◌then◌else◌}
use Rattle.c_tree.specs.Bare.{Name, read, Stmt, decl, set, step, print, input, if_, if_else, while_, do_, for_, block, break_, continue_, empty, omp, call, Stmts, no_stmts, more_stmts, head, MaybeStmt, no_stmt, a_stmt}
use Rattle.c_tree.specs.declared.tree.Ty.{Ty}
use Rattle.c_tree.specs.declared.tree.BinOp.{BinOp}
use Rattle.c_tree.specs.declared.tree.BinOp.TheVariants.{Lt, Gt, Le, Ge, Ne}
use Rattle.c_tree.specs.declared.name_rule.NameRule.TheVariants.{N2}
use Rattle.c_tree.specs.NameRules.BreachSets.{HasNone}
use Rattle.c_tree.specs.NameRules.Breaches.{stmt_breaches, stmts_breaches, part_breaches}
use Rattle.c_tree.specs.NameRules.Scopes.{Scope, meaning, is_define, is_taken, declare, a_scalar, inner, after_stmt, after_part}
use Rattle.c_semantics.specs.Laws.Names.{Names, UsesAll}
use Rattle.c_soundness.specs.NeverStuck.{IsPlain, AllPlain, MaybePlain}
use Rattle.c_soundness.specs.Unplaced.{unplaced_stmt, unplaced_stmts, unplaced_part}
use Rattle.c_soundness.proofs.Fits.{none_if}
use Rattle.loop_normal.specs.DrawnNames.{FreshNames, loop_names}
use Rattle.loop_normal.specs.Gens.{GenLoop, gen_loop, Inner, Nest, Seq, Plain, Parts, more_parts, join, counter_loop, loop_stmts, inner_stmts, parts_stmts, emit}
use Rattle.loop_normal.specs.Templates.{ll, only, SourceLoop, source_front, source_var, leaf, count_by, is_up, signed_literal, value_expr}
use Rattle.loop_normal.proofs.FreshFrames.{differ_sym}
use Rattle.nest_normal.specs.NestTexts.{nest_of, declares, put_visible, declare_in, declare_below, nest_round}
use Rattle.template_laws.specs.Names.{ExprBreaksNone, BreaksNone, NeverDrawn, DrawsApart, Unseen, IsFineLoop, IsFineNest}
use Rattle.template_laws.proofs.Lists.{first_has, second_has}
use Rattle.template_laws.proofs.Kept.{declare_kept}
use Rattle.template_laws.proofs.Plain.{AnyName, AnyExpr, AnyNumber, plain_each}
use Rattle.template_laws.proofs.Scopes.{meaning_inner, meaning_other, not_taken, unseen_free, Scalar, own_scalar, still_scalar, inner_scalar, scalar_read}
use Rattle.template_laws.proofs.Seen.{expr_stays, Same, Sees, sees_self, sees_inner, same_declared, free_seen, sees_declared, stmts_seen}
use Rattle.template_laws.proofs.LoopNames.{after_all, join_breaks, first_breaks, second_breaks, names_each, of_loop, free_none, New, sees_new}
use Rattle.template_laws.proofs.Changed.{Given, same_list, opened, closed, kept_loop}

count_none : (s : Scope) (op : BinOp) (u : Bool) (k : ℕ) (a b : Name) → Scalar s a → Scalar s b → ExprBreaksNone s (count_by op u k a b)
count_none s op u k a b sa sb = by op u (scalar_read s a sa) (scalar_read s b sb)
  where
    by : (op : BinOp) (u : Bool) → ExprBreaksNone s (read a) → ExprBreaksNone s (read b) → ExprBreaksNone s (count_by op u k a b)
    by Lt true x y = ((x, y), (((((y, x), tt), tt), tt), tt))
    by Le true x y = ((x, y), ((((y, x), tt), tt), tt))
    by Ne true x y = ((x, y), (((((y, x), tt), tt), tt), tt))
    by Gt false x y = ((x, y), (((((x, y), tt), tt), tt), tt))
    by Ge false x y = ((x, y), ((((x, y), tt), tt), tt))
    by Ne false x y = ((x, y), (((((x, y), tt), tt), tt), tt))
    by op u x y = tt

signed_none : (s : Scope) (u : Bool) (k : ℕ) → ExprBreaksNone s (signed_literal u k)
signed_none s true k = tt
signed_none s false k = tt

value_none : (s : Scope) (T : Ty) (z : ℤ) (a t : Name) → Scalar s a → Scalar s t → ExprBreaksNone s (value_expr T z a t)
value_none s T z a t sa st = (scalar_read s a sa, (scalar_read s t st, signed_none s (is_up z) (nat_abs z)))

same_into : (S : Name → Type 0) (s t : Scope) → Same S s t → Same S s (inner t)
same_into S s t h = record { meaning = λ y p. meaning_inner t y ∙ h.meaning y p; print_same = h.print_same; input_same = h.input_same }

same_from : (S : Name → Type 0) (s t : Scope) → Same S s t → Same S (inner s) t
same_from S s t h = record { meaning = λ y p. h.meaning y p ∙ sym (meaning_inner s y); print_same = h.print_same; input_same = h.input_same }

-- ---- the front: the bounds and the count

record FrontFine (f : FreshNames) (inside : Bool) (s : Scope) (h : SourceLoop) : Type 0 where
  pub after : Scope
  pub sees : Sees (NeverDrawn f) None s after
  pub begin : Scalar after (New f inside 0)
  pub count : Scalar after (New f inside 2)
  pub unseen : meaning after (New f inside 3) ≡ None
  pub whole : (il : Bool) (rest : Stmts) → BreaksNone inside il after rest → BreaksNone inside il s (source_front (loop_names f) h rest)

front_fine : (f : FreshNames) (inside : Bool) (s : Scope) (h : SourceLoop) → DrawsApart f → Unseen f s → ExprBreaksNone s h.lb → ExprBreaksNone s h.ub → Names (NeverDrawn f) h.lb → Names (NeverDrawn f) h.ub → FrontFine f inside s h
front_fine f inside s h apart unseen lb ub lb_names ub_names =
    let S = NeverDrawn f in
    let begin = New f inside 0 in
    let end = New f inside 1 in
    let count = New f inside 2 in
    let counter = New f inside 3 in
    let free0 = unseen_free s begin (unseen 0) in
    let v1 = declare begin a_scalar s in
    let sees1 = sees_new f inside 0 None s s (sees_self S s) free0 in
    let free1 = unseen_free v1 end (meaning_other s begin end (apart 0 0) ∙ unseen 1) in
    let v2 = declare end a_scalar v1 in
    let sees2 = sees_new f inside 1 None s v1 sees1 free1 in
    let free2 = unseen_free v2 count (meaning_other v1 end count (apart 1 0) ∙ meaning_other s begin count (apart 0 1) ∙ unseen 2) in
    let v3 = declare count a_scalar v2 in
    let begin3 : Scalar v3 begin = still_scalar v2 count begin (differ_sym count begin (apart 0 1)) (still_scalar v1 end begin (differ_sym end begin (apart 0 0)) (own_scalar s begin free0)) in
    let end3 : Scalar v3 end = still_scalar v2 count end (differ_sym count end (apart 1 0)) (own_scalar v1 end free1) in
    record {
      after = v3;
      sees = sees_new f inside 2 None s v2 sees2 free2;
      begin = begin3;
      count = own_scalar v2 count free2;
      unseen = meaning_other v2 count counter (apart 2 0) ∙ meaning_other v1 end counter (apart 1 1) ∙ meaning_other s begin counter (apart 0 2) ∙ unseen 3;
      whole = λ il rest k. (
        (free_none s begin free0, expr_stays s v1 S sees1.same.meaning h.lb lb_names lb),
        (
          (free_none v1 end free1, expr_stays s v2 S sees2.same.meaning h.ub ub_names ub),
          ((free_none v2 count free2, count_none v3 h.test (is_up h.step) (nat_abs h.step) begin end begin3 end3), k),
        ),
      );
    }

-- ---- the loop from 0 to the count

abbrev below_count : FreshNames → Bool → Scope → Scope
below_count f inside t = inner (declare (New f inside 3) a_scalar (inner t))

-- what is read below it
record Reads (f : FreshNames) (inside : Bool) (t : Scope) : Type 0 where
  pub begin : Scalar t (New f inside 0)
  pub counter : Scalar t (New f inside 3)

record CountFine (f : FreshNames) (inside : Bool) (s t : Scope) : Type 0 where
  pub sees : Same (NeverDrawn f) s (below_count f inside t)
  pub reads : Reads f inside (below_count f inside t)
  pub whole : (il : Bool) (list : Stmts) → BreaksNone inside true (below_count f inside t) list → BreaksNone inside il t (only (counter_loop (New f inside 3) (ll 0) (read (New f inside 2)) list))

count_fine : (f : FreshNames) (inside : Bool) (s t : Scope) → DrawsApart f → Same (NeverDrawn f) s t → Scalar t (New f inside 0) → Scalar t (New f inside 2) → meaning t (New f inside 3) ≡ None → CountFine f inside s t
count_fine f inside s t apart same begin3 count3 unseen =
    let S = NeverDrawn f in
    let begin = New f inside 0 in
    let count = New f inside 2 in
    let counter = New f inside 3 in
    let u = inner t in
    let free = unseen_free u counter (meaning_inner t counter ∙ unseen) in
    let d = declare counter a_scalar u in
    let seen = sees_new f inside 3 None s u (record { same = same_into S s t same; own = λ x p o k. refl }) free in
    record {
      sees = same_into S s d seen.same;
      reads = record {
        begin = inner_scalar d begin (still_scalar u counter begin (differ_sym counter begin (apart 0 2)) (inner_scalar t begin begin3));
        counter = inner_scalar d counter (own_scalar u counter free);
      };
      whole = λ il list k.
          let count_read = scalar_read d count (still_scalar u counter count (differ_sym counter count (apart 2 0)) (inner_scalar t count count3)) in
          of_loop inside il t counter (ll 0) (read count) list (record { free = free; from = tt; to = count_read; below = k });
    }

-- the loop's variable
value_read : (f : FreshNames) (inside : Bool) (t : Scope) (h : SourceLoop) → NeverDrawn f h.var → Reads f inside t → ExprBreaksNone (declare h.var a_scalar t) (value_expr h.ty h.step (New f inside 0) (New f inside 3))
value_read f inside t h var reads =
    value_none (declare h.var a_scalar t) h.ty h.step (New f inside 0) (New f inside 3) (still_scalar t h.var (New f inside 0) (var 0) reads.begin) (still_scalar t h.var (New f inside 3) (var 3) reads.counter)

-- ---- alone

pub leaf_breaks_none : (inside il : Bool) (s : Scope) (f : FreshNames) (h : SourceLoop) (body : Stmts) → IsFineLoop inside s f h body → BreaksNone inside il s (emit (leaf (loop_names f) h body))
leaf_breaks_none inside il s f h body w =
    let S = NeverDrawn f in
    let front = front_fine f inside s h w.apart w.unseen w.lb w.ub w.lb_names w.ub_names in
    let t = front.after in
    let loop = count_fine f inside (inner s) t w.apart (same_from S s t front.sees.same) front.begin front.count front.unseen in
    let b = below_count f inside t in
    let var_outer = not_taken (inner s) h.var refl (ap is_define (meaning_inner s h.var) ∙ w.no_define) in
    let var_free = not_taken b h.var refl (ap is_define (loop.sees.meaning h.var w.var ∙ meaning_inner s h.var) ∙ w.no_define) in
    let below = same_declared S (inner s) b h.var loop.sees var_outer var_free in
    let body_none = stmts_seen S inside body None true (inner (declare h.var a_scalar (inner s))) (inner (declare h.var a_scalar b)) (sees_inner S (declare h.var a_scalar (inner s)) (declare h.var a_scalar b) below) w.names w.plain tt w.fine in
    front.whole il (only (counter_loop (New f inside 3) (ll 0) (read (New f inside 2)) (more_stmts (source_var (loop_names f) h) (only (block body)))))
    (loop.whole il (more_stmts (source_var (loop_names f) h) (only (block body))) ((free_none b h.var var_free, value_read f inside b h w.var loop.reads), (body_none, tt)))

-- ---- what breaks no rule breaks none within a loop

module _ (inside : Bool) where
  mutual
    stmt_in_loop : (a : Stmt) (il : Bool) (s : Scope) → IsPlain a → HasNone (stmt_breaches inside il s (unplaced_stmt a)) → HasNone (stmt_breaches inside true s (unplaced_stmt a))
    stmt_in_loop (decl t x e) il s p h = h
    stmt_in_loop (set t op e) il s p h = h
    stmt_in_loop (step t up) il s p h = h
    stmt_in_loop (print e) il s p h = h
    stmt_in_loop (input t) il s p h = h
    stmt_in_loop (if_ e a) il s p h = (h.0, stmts_in_loop a il (inner s) p h.1)
    stmt_in_loop (if_else e a b) il s p h = (h.0, (stmts_in_loop a il (inner s) p.0 h.1.0, stmts_in_loop b il (inner s) p.1 h.1.1))
    stmt_in_loop (while_ e a) il s p h = h
    stmt_in_loop (do_ a e) il s p h = h
    stmt_in_loop (for_ (head i e next) a) il s p h =
        ((part_in_loop i il (inner s) p.0 h.0.0, (h.0.1.0, part_in_loop next il (after_part (inner s) (unplaced_part i)) p.1 h.0.1.1)), h.1)
    stmt_in_loop (block a) il s p h = stmts_in_loop a il (inner s) p h
    stmt_in_loop break_ il s p h = tt
    stmt_in_loop continue_ il s p h = tt
    stmt_in_loop empty il s p h = tt
    stmt_in_loop (omp d a) il s p h = absurd p
    stmt_in_loop (call x es) il s p h = h

    part_in_loop : (i : MaybeStmt) (il : Bool) (s : Scope) → MaybePlain i → HasNone (part_breaches inside il s (unplaced_part i)) → HasNone (part_breaches inside true s (unplaced_part i))
    part_in_loop no_stmt il s p h = tt
    part_in_loop (a_stmt a) il s p h = stmt_in_loop a il s p h

    stmts_in_loop : (as' : Stmts) (il : Bool) (s : Scope) → AllPlain as' → HasNone (stmts_breaches inside il s (unplaced_stmts as')) → HasNone (stmts_breaches inside true s (unplaced_stmts as'))
    stmts_in_loop no_stmts il s p h = tt
    stmts_in_loop (more_stmts a as') il s p h = (stmt_in_loop a il s p.0 h.0, stmts_in_loop as' il (after_stmt s (unplaced_stmt a)) p.1 h.1)

-- ---- round a nest

module _ (f : FreshNames) (inside : Bool) (h : SourceLoop) (var : NeverDrawn f h.var) where
  abbrev S : Name → Type 0
  S = NeverDrawn f

  -- the variable with a value that reads no name, and as the template declares it
  abbrev plain_var : Stmt
  plain_var = decl h.ty h.var (Some (ll 0))

  abbrev new_var : Stmt
  new_var = source_var (loop_names f) h

  -- a drawn name means what it did after statements that don't name it
  drawn_stays : (k : ℕ) (as' : Stmts) (t : Scope) → UsesAll S S as' → meaning (after_all t as') (New f inside k) ≡ meaning t (New f inside k)
  drawn_stays k no_stmts t n = refl
  drawn_stays k (more_stmts a as') t n = drawn_stays k as' (after_stmt t (unplaced_stmt a)) n.1 ∙ one a (n.0, tt)
    where
      one : (a : Stmt) → UsesAll S S (only a) → meaning (after_stmt t (unplaced_stmt a)) (New f inside k) ≡ meaning t (New f inside k)
      one (decl T x e) m = meaning_other t x (New f inside k) (m.0.0 k)
      one a m = refl

  reads_below : (t : Scope) (c : Name) → S c → Reads f inside t → Reads f inside (inner (declare c a_scalar (inner t)))
  reads_below t c p r = record {
    begin = inner_scalar (declare c a_scalar (inner t)) (New f inside 0) (still_scalar (inner t) c (New f inside 0) (p 0) (inner_scalar t (New f inside 0) r.begin));
    counter = inner_scalar (declare c a_scalar (inner t)) (New f inside 3) (still_scalar (inner t) c (New f inside 3) (p 3) (inner_scalar t (New f inside 3) r.counter));
  }

  visible_seen : (ps : Parts) (s t : Scope) → Sees S None s t → Reads f inside t → UsesAll S S (parts_stmts (put_visible plain_var ps)) → AllPlain (parts_stmts (put_visible plain_var ps)) →
      BreaksNone inside true s (parts_stmts (put_visible plain_var ps)) → BreaksNone inside true t (parts_stmts (put_visible new_var ps))
  visible_seen ps s t sees reads = by (declares h.var (parts_stmts ps))
    where
      by : (b : Bool) → UsesAll S S (parts_stmts (if b then ps else more_parts (Plain (only plain_var)) ps)) → AllPlain (parts_stmts (if b then ps else more_parts (Plain (only plain_var)) ps)) →
          BreaksNone inside true s (parts_stmts (if b then ps else more_parts (Plain (only plain_var)) ps)) → BreaksNone inside true t (parts_stmts (if b then ps else more_parts (Plain (only new_var)) ps))
      by true n p k = stmts_seen S inside (parts_stmts ps) None true s t sees n p tt k
      by false n p k =
          let free = none_if (is_taken s h.var) N2 0 k.0.0 in
          let own = free_seen S s t h.var sees.same var (sees.own h.var var tt) free in
          let after = sees_declared S None s t h.var sees free own in
          ((free_none t h.var own, value_read f inside t h var reads), stmts_seen S inside (parts_stmts ps) None true (declare h.var a_scalar s) (declare h.var a_scalar t) after n.1 p.1 tt k.1)

  mutual
    declare_seen : (l : GenLoop) (o : Option Name) (il : Bool) (s t : Scope) → Reads f inside t → Given f inside o il s t (loop_stmts (declare_in plain_var l)) → BreaksNone inside il t (loop_stmts (declare_in new_var l))
    declare_seen (gen_loop ls c a b inner') o il s t reads g =
        let old = declare_below plain_var inner' in
        let new = declare_below new_var inner' in
        let w = opened f inside o il s t ls c a b old g in
        let s1 = after_all s ls in
        let t1 = after_all t ls in
        let reads1 : Reads f inside t1 = record { begin = drawn_stays 0 ls t w.lets_names ∙ reads.begin; counter = drawn_stays 3 ls t w.lets_names ∙ reads.counter } in
        (closed f inside o il s t t1 ls ls c c a b a b old new refl w.lets w.sees
        (kept_loop f inside il s1 t1 c a b (inner_stmts old) w.sees.same w.counter w.from w.loop b (inner_stmts new) (λ sees free. (
          expr_stays (declare c a_scalar (inner s1)) (declare c a_scalar (inner t1)) S (sees_declared S None (inner s1) (inner t1) c (sees_inner S s1 t1 w.sees.same) w.loop.free free).same.meaning b w.to w.loop.to,
          below_seen inner' (inner (declare c a_scalar (inner s1))) (inner (declare c a_scalar (inner t1))) sees (reads_below t1 c w.counter reads1) w.names w.plain w.loop.below,
        )))).none

    below_seen : (inner' : Inner) (s t : Scope) → Sees S None s t → Reads f inside t → UsesAll S S (inner_stmts (declare_below plain_var inner')) → AllPlain (inner_stmts (declare_below plain_var inner')) →
        BreaksNone inside true s (inner_stmts (declare_below plain_var inner')) → BreaksNone inside true t (inner_stmts (declare_below new_var inner'))
    below_seen (Nest l) s t sees reads n p k = declare_seen l None true s t reads (record { sees = sees; names = n; plain = p; others = tt; none = k })
    below_seen (Seq ps) s t sees reads n p k = visible_seen ps s t sees reads n p k

pub round_breaks_none : (inside il : Bool) (s : Scope) (f : FreshNames) (h : SourceLoop) (front : Stmts) (l : GenLoop) → IsFineNest inside il s f h front l →
    BreaksNone inside il s (emit (nest_round (loop_names f) h (nest_of front l)))
round_breaks_none inside il s f h front l w =
    let S = NeverDrawn f in
    let var0 = decl h.ty h.var (Some (ll 0)) in
    let parts = loop_stmts l in
    let front_names = first_has S (Names S) AnyNumber (UsesAll S S) (names_each S) front (join parts no_stmts) w.names in
    let front_plain = first_has AnyName AnyExpr AnyNumber AllPlain plain_each front (join parts no_stmts) w.plain in
    let nest_names = first_has S (Names S) AnyNumber (UsesAll S S) (names_each S) parts no_stmts (second_has S (Names S) AnyNumber (UsesAll S S) (names_each S) front (join parts no_stmts) w.names) in
    let nest_plain = first_has AnyName AnyExpr AnyNumber AllPlain plain_each parts no_stmts (second_has AnyName AnyExpr AnyNumber AllPlain plain_each front (join parts no_stmts) w.plain) in
    let own_names = declare_kept S (Names S) AnyNumber (UsesAll S S) (names_each S) var0 ((w.var, tt), tt) l nest_names in
    let own_plain = declare_kept AnyName AnyExpr AnyNumber AllPlain plain_each var0 (tt, tt) l nest_plain in
    let own = loop_stmts (declare_in var0 l) in
    let start = front_fine f inside s h w.apart w.unseen w.lb w.ub w.lb_names w.ub_names in
    let s1 = after_all s front in
    let t = start.after in
    let t1 = after_all t front in
    let before = same_list f inside None il s t front (record { sees = start.sees; names = front_names; plain = front_plain; others = tt; none = first_breaks inside il front (join own no_stmts) s w.none }) in
    let loop = count_fine f inside s1 t1 w.apart before.after.same (drawn_stays f inside h w.var 0 front t front_names ∙ start.begin) (drawn_stays f inside h w.var 2 front t front_names ∙ start.count) (drawn_stays f inside h w.var 3 front t front_names ∙ start.unseen) in
    let nest_none = first_breaks inside il own no_stmts s1 (second_breaks inside il front (join own no_stmts) s w.none) in
    let below = declare_seen f inside h w.var l None true s1 (below_count f inside t1) loop.reads (record {
      sees = record { same = loop.sees; own = λ x p o k. refl };
      names = own_names;
      plain = own_plain;
      others = tt;
      none = stmts_in_loop inside own il s1 own_plain nest_none;
    }) in
    let round = only (counter_loop (New f inside 3) (ll 0) (read (New f inside 2)) (loop_stmts (declare_in (source_var (loop_names f) h) l))) in
    start.whole il (join front round) (join_breaks inside il front round t before.none (loop.whole il (loop_stmts (declare_in (source_var (loop_names f) h) l)) below))
