-- Generated code breaks no name rule where its bounds and its body break none, and calls as deeply as the body.
use Rattle.std.proofs.Common.{◌≡◌, refl, sym, ap, ◌∙◌, subst, ℕ, zero, suc, max, List, [], ◌∷◌, Some, Bool, true, false, arith, ℤ, nat_abs}
use Rattle.std.specs.Prelude.{bytes_eq, if◌then◌else◌}
use Rattle.c_tree.specs.Bare.{Name, Expr, read, bin, decl, block, Stmts, no_stmts, more_stmts}
use Rattle.c_tree.specs.declared.tree.Ty.{Ty}
use Rattle.c_tree.specs.declared.tree.BinOp.{BinOp}
use Rattle.c_tree.specs.declared.tree.BinOp.TheVariants.{Sub, Lt, Gt, Le, Ge, Ne}
use Rattle.c_tree.specs.declared.name_rule.NameRule.TheVariants.{N2}
use Rattle.c_tree.specs.NameRules.BreachSets.{HasNone}
use Rattle.c_tree.specs.NameRules.Scopes.{Scope, meaning, is_define, is_taken, declare, a_scalar, inner}
use Rattle.c_tree.specs.NameRules.Breaches.{breach_if, assign_breaches, expr_breaches, stmts_breaches}
use Rattle.c_tree.specs.NameRules.CallDepth.{deepest_calls}
use Rattle.c_semantics.specs.Laws.Apart.{Differ}
use Rattle.c_soundness.specs.Unplaced.{unplaced_expr, unplaced_stmts}
use Rattle.loop_normal.specs.Gens.{gen_loop, Seq, Looped, Plain, Parts, no_parts, more_parts, Gen, join, let_stmt, parts_stmts, emit}
use Rattle.loop_normal.specs.Templates.{ll, only, SourceLoop, leaf, source_var, count_by, count_expr, is_up, signed_literal, value_expr, begins_at_zero, on_first}
use Rattle.loop_normal.specs.DrawnNames.{FreshNames, drawn, after_draw, after_draws, loop_names, AreDigits}
use Rattle.loop_normal.specs.FromZero.{from_zero, after_from_zero}
use Rattle.loop_normal.proofs.FreshFrames.{differ_sym}
use Rattle.loop_normal.proofs.Drawn.{drawn_once}
use Rattle.permute_reverse.specs.Reversed.{reversed, reversed_gen}
use Rattle.carried_out.specs.CarriedOut.{Made, made_reverse, transformed, planned, items_applied}
use Rattle.c_semantics.specs.Loops.Transformations.{Transformation, reverse_, Plan, plan, Applied, none_applied, applied_at}
use Rattle.carried_out.proofs.SpentNames.{Spent, Each}
use Rattle.carried_out.proofs.FromZero.{stays_from_zero, draws_none}
use Rattle.carried_names.proofs.Fresh.{Fresh, Source, Reached, reached_more, drawn_fresh, reached_digits}
use Rattle.carried_names.proofs.Scopes.{Under, Clean, Alike, Scalar, Free, own_scalar, still_scalar, inner_scalar, still_free, not_taken, under_then, under_inner, under_fresh, under_source, clean_source, source_apart, alike_inside}
use Rattle.carried_names.proofs.Uses.{expr_kept, scalar_read}

-- ---- statements

-- a list that breaks no name rule, and the depth of its calls
pub record Fine (in_function in_loop : Bool) (s : Scope) (a : Stmts) (n : ℕ) : Type 0 where
  pub none : HasNone (stmts_breaches in_function in_loop s (unplaced_stmts a))
  pub depth : deepest_calls s (unplaced_stmts a) ≡ n

max_left : (n : ℕ) → max 0 n ≡ n
max_left n = omega arith

max_right : (n : ℕ) → max n 0 ≡ n
max_right n = omega arith

pub free_none : (s : Scope) (x : Name) → is_taken s x ≡ false → HasNone (breach_if (is_taken s x) N2 0)
free_none s x h = subst (λ b. HasNone (breach_if b N2 0)) (sym h) tt

pub fine_decl : (inside il : Bool) (s : Scope) (T : Ty) (x : Name) (e : Expr) (rest : Stmts) (n : ℕ) → is_taken s x ≡ false → HasNone (expr_breaches (declare x a_scalar s) (unplaced_expr e)) →
    Fine inside il (declare x a_scalar s) rest n → Fine inside il s (more_stmts (decl T x (Some e)) rest) n
fine_decl inside il s T x e rest n free h r = record { none = ((free_none s x free, h), r.none); depth = max_left _ ∙ r.depth }

-- ---- the expressions of a normal form

count_none : (s : Scope) (op : BinOp) (u : Bool) (k : ℕ) (a b : Name) → Scalar s a → Scalar s b → HasNone (expr_breaches s (unplaced_expr (count_by op u k a b)))
count_none s op u k a b sa sb = by op u (scalar_read s a sa) (scalar_read s b sb)
  where
    by : (op : BinOp) (u : Bool) → HasNone (expr_breaches s (unplaced_expr (read a))) → HasNone (expr_breaches s (unplaced_expr (read b))) → HasNone (expr_breaches s (unplaced_expr (count_by op u k a b)))
    by Lt true x y = ((x, y), (((((y, x), tt), tt), tt), tt))
    by Le true x y = ((x, y), ((((y, x), tt), tt), tt))
    by Ne true x y = ((x, y), (((((y, x), tt), tt), tt), tt))
    by Gt false x y = ((x, y), (((((x, y), tt), tt), tt), tt))
    by Ge false x y = ((x, y), ((((x, y), tt), tt), tt))
    by Ne false x y = ((x, y), (((((x, y), tt), tt), tt), tt))
    by op u x y = tt

signed_none : (s : Scope) (u : Bool) (k : ℕ) → HasNone (expr_breaches s (unplaced_expr (signed_literal u k)))
signed_none s true k = tt
signed_none s false k = tt

value_none : (s : Scope) (T : Ty) (z : ℤ) (a t : Name) → Scalar s a → Scalar s t → HasNone (expr_breaches s (unplaced_expr (value_expr T z a t)))
value_none s T z a t sa st = (scalar_read s a sa, (scalar_read s t st, signed_none s (is_up z) (nat_abs z)))

-- ---- generated code

abbrev pub EachFree : Scope → List Name → Type 0
EachFree s xs = Each (Free s) xs

each_more : (P Q : Name → Type 0) → ((y : Name) → P y → Q y) → (xs : List Name) → Each P xs → Each Q xs
each_more P Q more [] h = tt
each_more P Q more (x ∷ xs) h = (more x h.0, each_more P Q more xs h.1)

all_free : (s : Scope) (xs : List Name) → EachFree (inner s) xs
all_free s [] = tt
all_free s (x ∷ xs) = (refl, all_free s xs)

still_each_free : (s : Scope) (c : Name) (xs : List Name) → is_taken s c ≡ false → Each (λ y. Differ y c) xs → EachFree s xs → EachFree (declare c a_scalar s) xs
still_each_free s c [] h d f = tt
still_each_free s c (x ∷ xs) h d f = (still_free s c x h d.0 f.0, still_each_free s c xs h d.1 f.1)

module _ (start : FreshNames) (digits : AreDigits start.digits) (inside : Bool) where
  -- one loop from 0 on. Its list declares some fresh names and then the loop's variable; it breaks no rule wherever the
  -- names of its front and its counter are scalars and its own names are free
  pub record GenFine (t : Scope) (n : ℕ) (f : FreshNames) (g : Gen) : Type 0 where
    pub begin : Name
    pub count : Name
    pub counter : Name
    pub var : Name
    pub lets : List Name
    pub below : Parts
    pub parts : g.parts ≡ more_parts (Looped (gen_loop no_stmts counter (ll 0) (read count) (Seq below))) no_parts
    pub after : Scope
    pub under : Under start t after
    pub begin_scalar : Scalar after begin
    pub count_scalar : Scalar after count
    pub front : (il : Bool) (rest : Stmts) (m : ℕ) → Fine inside il after rest m → Fine inside il (inner t) (join g.front rest) m
    pub body : (u : Scope) → Under start t u → Scalar u begin → Scalar u count → Scalar u counter → EachFree u lets → Free u var → Fine inside true u (parts_stmts below) n
    pub counter_fresh : Fresh start counter
    pub var_source : Source start var
    pub apart : Each (λ y. Differ y counter) lets
    pub spent : Each (Spent f) (counter ∷ lets)
    pub reached : Reached start f

  -- what the normal form of a loop asks of its parts: s is the scope of the loop, and w that of its head
  pub record LoopFine (s w : Scope) (h : SourceLoop) (body : Stmts) (n : ℕ) : Type 0 where
    pub clean : Clean start s
    pub var_source : Source start h.var
    pub no_define : is_define (meaning s h.var) ≡ false
    pub lb : HasNone (expr_breaches s (unplaced_expr h.lb))
    pub ub : HasNone (expr_breaches s (unplaced_expr h.ub))
    pub in_head : (y : Name) → meaning w y ≡ (if bytes_eq y h.var then Some a_scalar else meaning s y)
    pub print_same : w.print_known ≡ s.print_known
    pub input_same : w.input_known ≡ s.input_known
    pub body_fine : (v : Scope) → Alike start (inner w) v → Fine inside true v body n

  under_own : (s t : Scope) → Under start s t → Under start t t
  under_own s t h = record { same = λ x d. refl; plain = h.plain; print_same = refl; input_same = refl }

  pub leaf_fine : (s w t : Scope) (f : FreshNames) (h : SourceLoop) (body : Stmts) (n : ℕ) → Under start s t → Reached start f → LoopFine s w h body n → GenFine t n (after_draws 4 f) (leaf (loop_names f) h body)
  leaf_fine s w t f h body n sees reached k =
      let begin = drawn f in
      let end = drawn (after_draws 1 f) in
      let count = drawn (after_draws 2 f) in
      let counter = drawn (after_draws 3 f) in
      let d0 = reached_digits start digits f reached in
      let r1 = reached_more start 1 f reached in
      let r2 = reached_more start 2 f reached in
      let r3 = reached_more start 3 f reached in
      let d1 = reached_digits start digits (after_draws 1 f) r1 in
      let d3 = reached_digits start digits (after_draws 3 f) r3 in
      let f0 = drawn_fresh start f reached in
      let f1 = drawn_fresh start (after_draws 1 f) r1 in
      let f2 = drawn_fresh start (after_draws 2 f) r2 in
      let f3 = drawn_fresh start (after_draws 3 f) r3 in
      let v0 = inner t in
      let u0 = under_inner start t t (under_own s t sees) in
      let t0 : is_taken v0 begin ≡ false = not_taken v0 begin refl (u0.plain begin f0) in
      let v1 = declare begin a_scalar v0 in
      let u1 = under_fresh start t v0 begin u0 f0 t0 in
      let end_free : Free v1 end = still_free v0 begin end t0 (drawn_once f d0 0) refl in
      let t1 : is_taken v1 end ≡ false = not_taken v1 end end_free (u1.plain end f1) in
      let v2 = declare end a_scalar v1 in
      let u2 = under_fresh start t v1 end u1 f1 t1 in
      let count_free : Free v2 count = still_free v1 end count t1 (drawn_once (after_draw f) d1 0) (still_free v0 begin count t0 (drawn_once f d0 1) refl) in
      let t2 : is_taken v2 count ≡ false = not_taken v2 count count_free (u2.plain count f2) in
      let v3 = declare count a_scalar v2 in
      let u3 = under_fresh start t v2 count u2 f2 t2 in
      let b3 : Scalar v3 begin = still_scalar v2 count begin t2 (still_scalar v1 end begin t1 (own_scalar v0 begin t0)) in
      let e3 : Scalar v3 end = still_scalar v2 count end t2 (own_scalar v1 end t1) in
      record {
        begin = begin;
        count = count;
        counter = counter;
        var = h.var;
        lets = [];
        below = more_parts (Plain (more_stmts (source_var (loop_names f) h) (only (block body)))) no_parts;
        parts = refl;
        after = v3;
        under = u3;
        begin_scalar = b3;
        count_scalar = own_scalar v2 count t2;
        front = λ il rest m r. fine_decl inside il v0 h.ty begin h.lb _ m t0 (expr_kept start s v1 (under_then start s t v1 sees u1) k.clean h.lb k.lb)
            (fine_decl inside il v1 h.ty end h.ub _ m t1 (expr_kept start s v2 (under_then start s t v2 sees u2) k.clean h.ub k.ub)
            (fine_decl inside il v2 _ count (count_expr h.test h.step begin end) rest m t2 (count_none v3 h.test (is_up h.step) (nat_abs h.step) begin end b3 e3) r));
        body = λ u under sb sc st free fv.
            let su = under_then start s t u sees under in
            let taken : is_taken u h.var ≡ false = not_taken u h.var fv (ap is_define (su.same h.var k.var_source) ∙ k.no_define) in
            let v = declare h.var a_scalar u in
            let in_body = k.body_fine (inner v) (alike_inside start w v (under_source start s u w h.var su k.var_source taken k.in_head k.print_same k.input_same) (clean_source start s w h.var k.clean k.var_source k.in_head)) in
            fine_decl inside true u h.ty h.var (value_expr h.ty h.step begin counter) (only (block body)) n taken
            (value_none v h.ty h.step begin counter (still_scalar u h.var begin taken sb) (still_scalar u h.var counter taken st))
            (record { none = (in_body.none, tt); depth = max_right _ ∙ in_body.depth });
        counter_fresh = f3;
        var_source = k.var_source;
        apart = tt;
        spent = (drawn_once (after_draws 3 f) d3, tt);
        reached = reached_more start 4 f reached;
      }

  -- ---- one reversed

  pub reversed_fine : (t : Scope) (n : ℕ) (f : FreshNames) (g : Gen) → GenFine t n f g → GenFine t n (after_draw f) (reversed_gen (drawn f) g)
  reversed_fine t n f g w =
      let r = drawn f in
      let c = w.counter in
      let d = reached_digits start digits f w.reached in
      record {
        begin = w.begin;
        count = w.count;
        counter = r;
        var = w.var;
        lets = c ∷ w.lets;
        below = more_parts (Plain (only (let_stmt c (bin Sub (bin Sub (read w.count) (ll 1)) (read r))))) w.below;
        parts = ap (on_first (reversed r)) w.parts;
        after = w.after;
        under = w.under;
        begin_scalar = w.begin_scalar;
        count_scalar = w.count_scalar;
        front = w.front;
        body = λ u under sb sc sr free fv.
            let taken : is_taken u c ≡ false = not_taken u c free.0 (under.plain c w.counter_fresh) in
            let v = declare c a_scalar u in
            fine_decl inside true u _ c (bin Sub (bin Sub (read w.count) (ll 1)) (read r)) (parts_stmts w.below) n taken
            ((scalar_read v w.count (still_scalar u c w.count taken sc), tt), scalar_read v r (still_scalar u c r taken sr))
            (w.body v (under_fresh start t u c under w.counter_fresh taken) (still_scalar u c w.begin taken sb) (still_scalar u c w.count taken sc) (own_scalar u c taken)
            (still_each_free u c w.lets taken w.apart free.1) (still_free u c w.var taken (source_apart start w.var c w.var_source w.counter_fresh) fv));
        counter_fresh = drawn_fresh start f w.reached;
        var_source = w.var_source;
        apart = each_more (Spent f) (λ y. Differ y r) (λ y s. differ_sym r y (s zero)) (c ∷ w.lets) w.spent;
        spent = (drawn_once f d, each_more (Spent f) (Spent (after_draw f)) (λ y s j. s (suc j)) (c ∷ w.lets) w.spent);
        reached = reached_more start 1 f w.reached;
      }

  pub record MadeFine (t : Scope) (n : ℕ) (m : Made Gen) : Type 0 where
    pub gen : GenFine t n m.left m.tree

  reverse_fine : (t : Scope) (n : ℕ) (m : Made Gen) → MadeFine t n m → MadeFine t n (made_reverse m)
  reverse_fine t n m w =
      let zero : begins_at_zero m.tree.parts ≡ true = ap begins_at_zero w.gen.parts in
      let same : GenFine t n (after_from_zero m.left m.tree) (from_zero m.left m.tree) =
      subst (λ g. GenFine t n (after_from_zero m.left m.tree) g) (sym (stays_from_zero m.left m.tree zero)) (subst (λ f. GenFine t n f m.tree) (sym (draws_none m.left m.tree zero)) w.gen) in
      record { gen = reversed_fine t n (after_from_zero m.left m.tree) (from_zero m.left m.tree) same }

  transformed_fine : (t : Scope) (n : ℕ) (a : Transformation) (m : Made Gen) → MadeFine t n m → MadeFine t n (transformed a m)
  transformed_fine t n reverse_ m w = reverse_fine t n m w
  transformed_fine t n a m w = w

  mutual
    pub planned_fine : (t : Scope) (n : ℕ) (p : Plan) (m : Made Gen) → MadeFine t n m → MadeFine t n (planned p m)
    planned_fine t n (plan a w) m h = applied_fine t n w (transformed a m) (transformed_fine t n a m h)

    applied_fine : (t : Scope) (n : ℕ) (w : Applied) (m : Made Gen) → MadeFine t n m → MadeFine t n (items_applied w m)
    applied_fine t n none_applied m h = h
    applied_fine t n (applied_at p d w) m h = applied_fine t n w (planned d m) (planned_fine t n d m h)

  -- ---- as a block

  loop_depth : (n : ℕ) → max (max (max 0 0) n) 0 ≡ n
  loop_depth n = omega arith

  pub emitted_fine : (t : Scope) (n : ℕ) (m : Made Gen) → MadeFine t n m → (il : Bool) → Fine inside il (inner t) (emit m.tree) n
  emitted_fine t n m q il =
      let w = q.gen in
      let c = w.counter in
      let h = inner w.after in
      let uh = under_inner start t w.after w.under in
      let taken : is_taken h c ≡ false = not_taken h c refl (uh.plain c w.counter_fresh) in
      let d = declare c a_scalar h in
      let v = inner d in
      let own : Scalar d c = own_scalar h c taken in
      let count : Scalar d w.count = still_scalar h c w.count taken (inner_scalar w.after w.count w.count_scalar) in
      let begin : Scalar d w.begin = still_scalar h c w.begin taken (inner_scalar w.after w.begin w.begin_scalar) in
      let body = w.body v (under_inner start t d (under_fresh start t h c uh w.counter_fresh taken)) (inner_scalar d w.begin begin) (inner_scalar d w.count count) (inner_scalar d c own) (all_free d w.lets) refl in
      let read_count = scalar_read d w.count count in
      let read_own = scalar_read d c own in
      let assigned : HasNone (assign_breaches (meaning d c) 0) = subst (λ o. HasNone (assign_breaches o 0)) (sym own) tt in
      w.front il (parts_stmts m.tree.parts) n (subst (λ ps. Fine inside il w.after (parts_stmts ps) n) (sym w.parts) (record {
        none = ((((free_none h c taken, tt), ((read_own, read_count), (read_own, (assigned, tt)))), body.none), tt);
        depth = loop_depth _ ∙ body.depth;
      }))
