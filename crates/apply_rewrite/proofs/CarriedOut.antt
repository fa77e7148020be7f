-- Where every directive is a `reverse` over a loop that it may have, carrying the constructs out replaces each stack by the
-- block that stands for it.
use Rattle.std.proofs.Common.{◌≡◌, refl, sym, ap, ◌∙◌, subst, ℕ, zero, suc, List, Option, Some, None, true, false}
use Rattle.std.specs.Prelude.{is_some}
use Rattle.std.proofs.lemmas.Bool.{both_ways, and_parts}
use Rattle.c_tree.specs.Bare.{Name, Expr, read, Directive, Stmt, decl, set, step, print, input, if_, if_else, while_, do_, for_, block, break_, continue_, empty, omp, call, Stmts, no_stmts, more_stmts, Head, head, MaybeStmt, no_stmt, a_stmt}
use Rattle.c_tree.specs.declared.tree.Ty.{Ty}
use Rattle.c_tree.specs.WellFormed.{WellFormedStmt, WellFormedStmts, MayBegin, MayEnd}
use Rattle.c_semantics.specs.Meaning.State.{scalar, State, push}
use Rattle.c_semantics.specs.Meaning.Expressions.{Define}
use Rattle.c_semantics.specs.Laws.Names.{Uses, UsesAll}
use Rattle.c_semantics.specs.Loops.CanonicalForm.{Canonical, canonical}
use Rattle.c_semantics.specs.Loops.Directives.{plan_of}
use Rattle.c_semantics.specs.Loops.Transformations.{Plan}
use Rattle.c_semantics.specs.Structure.Skeleton.{scope_after, scope_in}
use Rattle.loop_normal.specs.Gens.{Gen}
use Rattle.loop_normal.specs.Templates.{leaf, only, source_var}
use Rattle.loop_normal.specs.DrawnNames.{FreshNames, after_draws, AreDigits, loop_names}
use Rattle.loop_normal.specs.FreshNames.{Among}
use Rattle.loop_normal.specs.Laws.{source_loop}
use Rattle.apply_rewrite.specs.NoBreaks.{NoBreak, NoBreakIf, NoBreaks}
use Rattle.apply_rewrite.specs.NoDirectives.{NoDirective, NoDirectiveIf, NoDirectives}
use Rattle.apply_rewrite.specs.ReverseStacks.{times_after, LeadsTo, loop_here, in_braces, in_directive, reversed_all, IsStack, all_names}
use Rattle.apply_rewrite.specs.Rewritten.{IsSimple, Rewritten, same, in_if, in_if_else, in_while, in_do, in_for, a_stack, AllRewritten, none, more}
use Rattle.apply_rewrite.specs.Rewritten as rewritten
use Rattle.carried_out.specs.CarriedOut.{Made, made_leaf, made_block, planned, variable_type, with_type, where_typed, loop_at, scope_below, carried, carried_all, nest, nest_in}
use Rattle.carried_out.specs.Reversible.{stays_in, all_stay_in, is_reversal, is_reversible, are_reversible, is_nest, is_nest_in}
use Rattle.apply_rewrite.proofs.NamesMore.{AnyCall, names_more, uses_more, all_more, part_more, if_more}
use Rattle.apply_rewrite.proofs.HeadNames.{Named, NamedIf, canonical_named}
use Rattle.carried_out.proofs.SpentNames.{Spent, spent_many, are_many, draws, length_draws, all_apart, among_differs, draws_spent}
use Rattle.apply_rewrite.proofs.OneLoop.{planned_last, value_named, stack_named, stack_stays, stack_plain}

-- ---- the parts of a head that may stand there

begin_stays : (i : MaybeStmt) → MayBegin i → NoBreakIf i × NoDirectiveIf i
begin_stays no_stmt h = (tt, tt)
begin_stays (a_stmt (decl t x (Some e))) h = (tt, tt)
begin_stays (a_stmt (set t op e)) h = (tt, tt)
begin_stays (a_stmt (step t up)) h = (tt, tt)
begin_stays (a_stmt a) h = absurd h

end_plain : (i : MaybeStmt) → MayEnd i → NoDirectiveIf i
end_plain no_stmt h = tt
end_plain (a_stmt (set t op e)) h = tt
end_plain (a_stmt (step t up)) h = tt
end_plain (a_stmt a) h = absurd h

module _ (ds : List Define) where
  -- what is made of a statement
  record Good (s : State) (a : Stmt) (f : FreshNames) (m : Made Stmt) : Type 0 where
    pub related : Rewritten ds s a m.tree
    pub named : Uses (Spent m.left) AnyCall m.tree
    stays : stays_in a ≡ true → NoBreak m.tree
    plain : NoDirective m.tree
    digits : AreDigits m.left.digits
    later : (y : Name) → Spent f y → Spent m.left y

  pub record AllGood (s : State) (a : Stmts) (f : FreshNames) (m : Made Stmts) : Type 0 where
    pub related : AllRewritten ds s a m.tree
    pub named : UsesAll (Spent m.left) AnyCall m.tree
    pub stays : all_stay_in a ≡ true → NoBreaks m.tree
    pub plain : NoDirectives m.tree
    pub digits : AreDigits m.left.digits
    pub later : (y : Name) → Spent f y → Spent m.left y

  -- what is made of a list that leads to a loop
  record GoodNest (s : State) (a : Stmts) (f : FreshNames) (m : Made Gen) : Type 0 where
    k : ℕ
    h : Head
    c : Canonical
    T : Ty
    body : Stmts
    made_body : Made Stmts
    leads : LeadsTo ds k h body a
    form : canonical ds h ≡ Some c
    typed : variable_type s c.ty c.var ≡ Some T
    good : AllGood (push c.var (scalar T None) s) body f made_body
    named : Named (Spent made_body.left) c
    breaks : NoBreaks made_body.tree
    is : m ≡ record {
      tree = reversed_all (draws k (after_draws 4 made_body.left)) (leaf (loop_names made_body.left) (source_loop c T) made_body.tree);
      left = after_draws k (after_draws 4 made_body.left);
    }

  one_more : (p : Plan) → is_reversal p ≡ true → (s : State) (a : Stmts) (f : FreshNames) (m : Made Gen) (n : GoodNest s a f m) →
      planned p m ≡ record { tree = reversed_all (draws (times_after p n.k) (after_draws 4 n.made_body.left)) (leaf (loop_names n.made_body.left) (source_loop n.c n.T) n.made_body.tree); left = after_draws (times_after p n.k) (after_draws 4 n.made_body.left) }
  one_more p r s a f m n = ap (planned p) n.is ∙ planned_last p r n.k (after_draws 4 n.made_body.left) _ _ _ _

  braced : (s : State) (a : Stmts) (f : FreshNames) (m : Made Gen) → GoodNest s a f m → GoodNest s (only (block a)) f m
  braced s a f m n = record {
    k = n.k;
    h = n.h;
    c = n.c;
    T = n.T;
    body = n.body;
    made_body = n.made_body;
    leads = in_braces n.leads;
    form = n.form;
    typed = n.typed;
    good = n.good;
    named = n.named;
    breaks = n.breaks;
    is = n.is;
  }

  directed : (d : Directive) → is_reversal (plan_of ds d) ≡ true → (s : State) (a : Stmts) (f : FreshNames) (m : Made Gen) → GoodNest s a f m → GoodNest s (only (omp d a)) f (planned (plan_of ds d) m)
  directed d r s a f m n = record {
    k = times_after (plan_of ds d) n.k;
    h = n.h;
    c = n.c;
    T = n.T;
    body = n.body;
    made_body = n.made_body;
    leads = in_directive d r n.leads;
    form = n.form;
    typed = n.typed;
    good = n.good;
    named = n.named;
    breaks = n.breaks;
    is = one_more (plan_of ds d) r s a f m n;
  }

  -- a directive round it, as a block
  stacked : (d : Directive) → is_reversal (plan_of ds d) ≡ true → (s : State) (a : Stmts) (f : FreshNames) (m : Made Gen) → GoodNest s a f m → Good s (omp d a) f (made_block (planned (plan_of ds d) m))
  stacked d r s a f m n =
      let j = times_after (plan_of ds d) n.k in
      let b = n.made_body in
      let g = b.left in
      let body = b.tree in
      let rs = draws j (after_draws 4 g) in
      let end = after_draws j (after_draws 4 g) in
      let names = loop_names g in
      let l = source_loop n.c n.T in
      let P = Spent end in
      let more : (y : Name) → Spent g y → P y = λ y t. spent_many j (after_draws 4 g) y (spent_many 4 g y t) in
      let fresh = draws_spent (suc (suc (suc (suc j)))) g n.good.digits in
      let differs = λ (y z : Name) (t : Spent g y) (i : Among (all_names names rs) z). among_differs (suc (suc (suc (suc j)))) g y z t i in
      let stack : IsStack ds s n.h n.c n.T names rs body = record {
        form = n.form;
        typed = n.typed;
        once = all_apart (suc (suc (suc (suc j)))) g n.good.digits;
        variable = λ z i. differs n.c.var z n.named.var i;
        begin = names_more (Spent g) _ (λ y t z i. differs y z t i) n.c.lb n.named.lb;
        end = names_more (Spent g) _ (λ y t z i. differs y z t i) n.c.ub n.named.ub;
        named = λ z i. all_more (Spent g) _ (λ y t. differs y z t i) body n.good.named;
        no_breaks = n.breaks;
      } in
      let u = all_more (Spent g) P more body n.good.named in
      let inner : UsesAll P AnyCall (more_stmts (source_var names l) (only (block body))) = ((more n.c.var n.named.var, value_named P n.T n.c.step names.begin names.counter fresh.0 fresh.1.1.1.0), (u, tt)) in
      subst (λ x. Good s (omp d a) f (made_block x)) (sym (one_more (plan_of ds d) r s a f m n)) (record {
        related = a_stack d n.k n.h n.c n.T names rs a n.body r n.leads (length_draws j (after_draws 4 g)) n.good.related stack;
        named = stack_named P names l fresh.0 fresh.1.0 fresh.1.1.0 (names_more (Spent g) P more n.c.lb n.named.lb) (names_more (Spent g) P more n.c.ub n.named.ub) rs names.counter (read names.count) _ fresh.1.1.1.1 fresh.1.1.1.0 fresh.1.1.0 inner;
        stays = λ e. stack_stays names l rs names.counter (read names.count) _;
        plain = stack_plain names l rs names.counter (read names.count) _ (tt, (n.good.plain, tt));
        digits = are_many j (after_draws 4 g) (are_many 4 g n.good.digits);
        later = λ y t. more y (n.good.later y t);
      })

  -- the loop itself
  module _ (s : State) (i : MaybeStmt) (e : Option Expr) (next : MaybeStmt) (a : Stmts) (f : FreshNames) (stays : all_stay_in a ≡ true) where
    typed_nest : (c : Canonical) → canonical ds (head i e next) ≡ Some c → Named (Spent f) c → (o : Option Ty) → variable_type s c.ty c.var ≡ o → is_some (with_type c o) ≡ true →
        AllGood (scope_below s (with_type c o)) a f (carried_all ds (scope_below s (with_type c o)) a f) →
        GoodNest s (only (for_ (head i e next) a)) f (made_leaf (with_type c o) (carried_all ds (scope_below s (with_type c o)) a f))
    typed_nest c form n None t h good = absurd (both_ways false refl h)
    typed_nest c form n (Some T) t h good =
        let m = carried_all ds (push c.var (scalar T None) s) a f in
        record {
          k = zero;
          h = head i e next;
          c = c;
          T = T;
          body = a;
          made_body = m;
          leads = loop_here (head i e next) a;
          form = form;
          typed = t;
          good = good;
          named = record {
            var = good.later c.var n.var;
            lb = names_more (Spent f) (Spent m.left) good.later c.lb n.lb;
            ub = names_more (Spent f) (Spent m.left) good.later c.ub n.ub;
          };
          breaks = good.stays stays;
          is = refl;
        }

    loop_nest : (o : Option Canonical) → canonical ds (head i e next) ≡ o → NamedIf (Spent f) o → is_some (where_typed s o) ≡ true →
        AllGood (scope_below s (where_typed s o)) a f (carried_all ds (scope_below s (where_typed s o)) a f) →
        GoodNest s (only (for_ (head i e next) a)) f (made_leaf (where_typed s o) (carried_all ds (scope_below s (where_typed s o)) a f))
    loop_nest None form n h good = absurd (both_ways false refl h)
    loop_nest (Some c) form n h good = typed_nest c form n (variable_type s c.ty c.var) refl h good

  -- a statement that stays as it is
  kept : (s : State) (a : Stmt) → IsSimple a → (f : FreshNames) → AreDigits f.digits → Uses (Spent f) AnyCall a → (stays_in a ≡ true → NoBreak a) → NoDirective a → Good s a f (record { tree = a; left = f })
  kept s a simple f d u stays plain = record { related = same a simple; named = u; stays = stays; plain = plain; digits = d; later = λ y t. t }

  mutual
    good_stmt : (s : State) (a : Stmt) → is_reversible ds s a ≡ true → WellFormedStmt a → (f : FreshNames) → AreDigits f.digits → Uses (Spent f) AnyCall a → Good s a f (carried ds s a f)
    good_stmt s (decl t x e) h w f d u = kept s (decl t x e) tt f d u (λ e. tt) tt
    good_stmt s (set t op e) h w f d u = kept s (set t op e) tt f d u (λ e. tt) tt
    good_stmt s (step t up) h w f d u = kept s (step t up) tt f d u (λ e. tt) tt
    good_stmt s (print e) h w f d u = kept s (print e) tt f d u (λ e. tt) tt
    good_stmt s (input t) h w f d u = kept s (input t) tt f d u (λ e. tt) tt
    good_stmt s (if_ e a) h w f d u =
        let g = good_stmts s a h w.1 f d u.1 in
        record {
          related = in_if e g.related;
          named = (names_more (Spent f) _ g.later e u.0, g.named);
          stays = g.stays;
          plain = g.plain;
          digits = g.digits;
          later = g.later;
        }
    good_stmt s (if_else e a b) h w f d u =
        let g = good_stmts s a (and_parts _ _ h).0 w.1 f d u.1 in
        let m = carried_all ds s a f in
        let k = good_stmts s b (and_parts (are_reversible ds s a) _ h).1 w.2 m.left g.digits (all_more (Spent f) (Spent m.left) g.later b u.2) in
        let later = λ (y : Name) (t : Spent f y). k.later y (g.later y t) in
        record {
          related = in_if_else e g.related k.related;
          named = (names_more (Spent f) _ later e u.0, all_more (Spent m.left) _ k.later m.tree g.named, k.named);
          stays = λ t. (g.stays (and_parts _ _ t).0, k.stays (and_parts (all_stay_in a) _ t).1);
          plain = (g.plain, k.plain);
          digits = k.digits;
          later = later;
        }
    good_stmt s (while_ e a) h w f d u =
        let g = good_stmts s a h w.1 f d u.1 in
        record {
          related = in_while e g.related;
          named = (names_more (Spent f) _ g.later e u.0, g.named);
          stays = λ t. tt;
          plain = g.plain;
          digits = g.digits;
          later = g.later;
        }
    good_stmt s (do_ a e) h w f d u =
        let g = good_stmts s a h w.0 f d u.0 in
        record {
          related = in_do e g.related;
          named = (g.named, names_more (Spent f) _ g.later e u.1);
          stays = λ t. tt;
          plain = g.plain;
          digits = g.digits;
          later = g.later;
        }
    good_stmt s (for_ (head i e next) a) h w f d u =
        let g = good_stmts (scope_in i s) a h w.1 f d u.3 in
        let begin = begin_stays i w.0.0 in
        record {
          related = in_for i e next w.0.0 w.0.3 g.related;
          named = (part_more (Spent f) _ g.later i u.0, if_more (Spent f) _ g.later e u.1, part_more (Spent f) _ g.later next u.2, g.named);
          stays = λ t. begin.0;
          plain = (begin.1, end_plain next w.0.3, g.plain);
          digits = g.digits;
          later = g.later;
        }
    good_stmt s (block a) h w f d u =
        let g = good_stmts s a h w f d u in
        record { related = rewritten.in_block g.related; named = g.named; stays = g.stays; plain = g.plain; digits = g.digits; later = g.later }
    good_stmt s break_ h w f d u = kept s break_ tt f d u (λ e. absurd (both_ways false refl e)) tt
    good_stmt s continue_ h w f d u = kept s continue_ tt f d u (λ e. tt) tt
    good_stmt s empty h w f d u = kept s empty tt f d u (λ e. tt) tt
    good_stmt s (omp d a) h w f digits u =
        stacked d (and_parts (is_reversal (plan_of ds d)) _ h).0 s a f (nest ds s a f) (good_nest s a (and_parts (is_reversal (plan_of ds d)) _ h).1 w.1 f digits u)
    good_stmt s (call x es) h w f d u = kept s (call x es) tt f d u (λ e. tt) tt

    pub good_stmts : (s : State) (a : Stmts) → are_reversible ds s a ≡ true → WellFormedStmts a → (f : FreshNames) → AreDigits f.digits → UsesAll (Spent f) AnyCall a → AllGood s a f (carried_all ds s a f)
    good_stmts s no_stmts h w f d u = record { related = none; named = tt; stays = λ t. tt; plain = tt; digits = d; later = λ y t. t }
    good_stmts s (more_stmts a as') h w f d u =
        let g = good_stmt s a (and_parts _ _ h).0 w.0 f d u.0 in
        let m = carried ds s a f in
        let k = good_stmts (scope_after a s) as' (and_parts (is_reversible ds s a) _ h).1 w.1 m.left g.digits (all_more (Spent f) (Spent m.left) g.later as' u.1) in
        record {
          related = more g.related k.related;
          named = (uses_more (Spent m.left) _ k.later m.tree g.named, k.named);
          stays = λ t. (g.stays (and_parts _ _ t).0, k.stays (and_parts (stays_in a) _ t).1);
          plain = (g.plain, k.plain);
          digits = k.digits;
          later = λ y t. k.later y (g.later y t);
        }

    good_nest : (s : State) (a : Stmts) → is_nest ds s a ≡ true → WellFormedStmts a → (f : FreshNames) → AreDigits f.digits → UsesAll (Spent f) AnyCall a → GoodNest s a f (nest ds s a f)
    good_nest s no_stmts h w f d u = absurd (both_ways false refl h)
    good_nest s (more_stmts a no_stmts) h w f d u = good_nest_in s a h w.0 f d u.0
    good_nest s (more_stmts a (more_stmts b as')) h w f d u = absurd (both_ways false refl h)

    good_nest_in : (s : State) (a : Stmt) → is_nest_in ds s a ≡ true → WellFormedStmt a → (f : FreshNames) → AreDigits f.digits → Uses (Spent f) AnyCall a → GoodNest s (only a) f (nest_in ds s a f)
    good_nest_in s (for_ (head i e next) a) h w f d u =
        let rest = (and_parts (is_some (loop_at ds s (head i e next))) _ h).1 in
        loop_nest s i e next a f (and_parts _ _ rest).0 (canonical ds (head i e next)) refl (canonical_named (Spent f) ds i e next u.0 u.1) (and_parts _ _ h).0
        (good_stmts (scope_below s (loop_at ds s (head i e next))) a (and_parts (all_stay_in a) _ rest).1 w.1 f d u.3)
    good_nest_in s (block a) h w f d u = braced s a f (nest ds s a f) (good_nest s a h w f d u)
    good_nest_in s (omp d a) h w f digits u =
        directed d (and_parts (is_reversal (plan_of ds d)) _ h).0 s a f (nest ds s a f) (good_nest s a (and_parts (is_reversal (plan_of ds d)) _ h).1 w.1 f digits u)
    good_nest_in s a h w f d u = absurd (both_ways false refl h)
