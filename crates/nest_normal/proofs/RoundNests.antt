-- A loop round the code of a nest, or round the innermost list: for all values of the outer variables.
use Rattle.std.proofs.Common.{◌≡◌, refl, sym, ap, ◌∙◌, subst, ℕ, ◌+◌, ◌<◌, List, [], ◌∷◌, ◌++◌, Some, None, Result, Ok, Err, Bool, true, false, ℤ, pos, arith, append_assoc}
use Rattle.std.specs.Prelude.{bytes_eq, nat_abs, if◌then◌else◌}
use Rattle.std.proofs.lemmas.Slice.Eq.{bytes_eq-Decides}
use Rattle.c_tree.specs.Bare.{Name, Expr, read, decl, Stmts, no_stmts, more_stmts}
use Rattle.c_tree.specs.declared.tree.Ty.{Ty}
use Rattle.c_tree.specs.declared.tree.Ty.TheVariants.{Long}
use Rattle.c_tree.specs.declared.arithmetic.Trap.{Trap}
use Rattle.c_tree.specs.Arithmetic.{and_then, convert}
use Rattle.c_semantics.specs.Meaning.State.{scalar, Var, State, find, or_else, push}
use Rattle.c_semantics.specs.Meaning.Expressions.{Define, eval}
use Rattle.c_semantics.specs.Meaning.Runs.{Run, Next, Trapped, ends, with_value, then_do}
use Rattle.c_semantics.specs.Meaning.SimpleStatements.{Env}
use Rattle.c_semantics.specs.Meaning.Statements.{exec_all}
use Rattle.c_semantics.specs.Loops.CanonicalForm.{Canonical}
use Rattle.c_semantics.specs.Loops.TripCount.{Range, count, entry, loop_type, value_at}
use Rattle.c_semantics.specs.Loops.IterationTrees.{Tree, put}
use Rattle.c_semantics.specs.Loops.Forest.{loop_over}
use Rattle.c_semantics.specs.Loops.Execution.{Body}
use Rattle.c_semantics.specs.Laws.Names.{Names}
use Rattle.c_semantics.proofs.Evals.{value_same}
use Rattle.loop_normal.specs.Frames.{above, long, Agrees, AgreesBut, Foreign}
use Rattle.loop_normal.specs.Gens.{GenLoop, gen_loop, Inner}
use Rattle.loop_normal.specs.Templates.{ll, LoopNames, count_expr, is_up, signed_literal, value_expr, source_front}
use Rattle.loop_normal.specs.Denotes.{Value, LoopMeans, InnerMeans, Undeclared}
use Rattle.loop_normal.specs.FreshNames.{Among, Apart}
use Rattle.loop_normal.specs.Laws.{source_loop}
use Rattle.loop_normal.proofs.FreshFrames.{value_num, value_read, found_top, found_but, find_append, find_other, not_none, same_name, agrees_same, agrees_new}
use Rattle.loop_normal.proofs.Leaf.{Worth, held, count_fits, source_value, then_all, bound_first}
use Rattle.loop_normal.proofs.Values.{worth}
use Rattle.loop_normal.proofs.Weaker.{inner_more}
use Rattle.nest_normal.specs.OuterVariables.{Outer, Given, ValuesApart, puts}
use Rattle.nest_normal.specs.NestDenotes.{HasNone, IsSteady, SteadyBelow, Within}
use Rattle.nest_normal.specs.Laws.{IsSource, with_names}
use Rattle.nest_normal.proofs.NamesMore.{names_more}
use Rattle.nest_normal.proofs.OuterLists.{typed_more, puts_more, puts_loop}
use Rattle.nest_normal.proofs.Innermost.{given_in}
use Rattle.nest_normal.proofs.Outer.{has_none_push, given_more}

-- a variable may go below others that don't have its name
agrees_below : (v : Var) (h m : List Var) → find v.name h ≡ None → Agrees (h ++ v ∷ m) (v ∷ h ++ m)
agrees_below v h m new x c e = by (bytes_eq x v.name) refl
  where
    split : find x (h ++ v ∷ m) ≡ or_else (find x h) (find x (v ∷ m))
    split = find_append x h (v ∷ m)

    by : (t : Bool) → bytes_eq x v.name ≡ t → (if t then Some v.cell else find x (h ++ m)) ≡ Some c
    by true q = let none : find x h ≡ None = ap (λ y. find y h) ((bytes_eq-Decides x v.name).0 q) ∙ new in
        sym (ap (λ t. if t then Some v.cell else find x m) q) ∙ sym (ap (λ o. or_else o (find x (v ∷ m))) none) ∙ sym split ∙ e
    by false q = find_append x h m ∙ ap (λ o. or_else (find x h) o) (sym (ap (λ t. if t then Some v.cell else find x m) q)) ∙ sym split ∙ e

both_foreign : (Out : Name → Type 0) (h f : List Var) → Foreign Out h → Foreign Out f → Foreign Out (h ++ f)
both_foreign Out [] f a b = b
both_foreign Out (v ∷ h) f a b = (a.0, both_foreign Out h f a.1 b)

module _ (n : ℕ) (env : Env) (names : List Name) (bs : List Body) (c : Canonical) (T : Ty) (m : LoopNames) (source : IsSource names m c) where
  abbrev Out : Name → Type 0
  Out = Among names

  abbrev ds : List Define
  ds = env.defines

  w : Worth env.defines c T m
  w = worth env.defines c T m source.step_fits

  abbrev var_of : Name → ℤ → Var
  var_of x z = record { name = x; cell = scalar T (Some z) }

  abbrev unset : Ty → Name → Var
  unset t x = record { name = x; cell = scalar t None }

  -- the front's variables
  abbrev fronts : ℤ → ℤ → ℕ → List Var
  fronts lb ub k = long m.count k ∷ var_of m.end ub ∷ var_of m.begin lb ∷ []

  abbrev range_ : ℤ → ℤ → ℕ → Range
  range_ lb ub k = record { var = c.var; ty = T; from = lb; step = c.step; count = k }

  abbrev count_ : Expr
  count_ = count_expr c.test c.step m.begin m.end

  -- the variable, as it is declared
  abbrev pub var_declared : Outer
  var_declared = record { ty = T; name = c.var; value = value_expr T c.step m.begin m.counter }

  module _ (own : List Name) (xs : List (Name × Ty)) (rest : Stmts) (bare : Inner) (code : List Outer → Inner)
      (new : Apart m.begin own × Apart m.end own × Apart m.count own × Apart m.counter own) (unseen : Undeclared m.count rest × Undeclared m.counter rest) (s : State) where
    abbrev front : Stmts
    front = source_front m (source_loop c T) rest

    abbrev counted : Stmts
    counted = more_stmts (decl Long m.count (Some count_)) rest

    abbrev ended : Stmts
    ended = more_stmts (decl T m.end (Some c.ub)) counted

    -- the loop, with the variable among those that are declared inside
    abbrev pub loop_code : List Outer → GenLoop
    loop_code os = gen_loop no_stmts m.counter (ll 0) (read m.count) (code (os ++ var_declared ∷ []))

    abbrev pub InnerWithin : Result (List Tree) Trap → Type 0
    InnerWithin = Within n env bs Out own (xs ++ (c.var, T) ∷ []) rest (SteadyBelow n env bs Out bare) (λ os p t. InnerMeans n env bs Out (code os) p t) s

    abbrev pub LoopWithin : Result (List Tree) Trap → Type 0
    LoopWithin = Within n env bs Out (with_names m own) xs front (IsSteady n env bs Out (gen_loop no_stmts m.counter (ll 0) (read m.count) bare)) (λ os p t. LoopMeans n env bs Out (loop_code os) p t) s

    declares_one : (t : Ty) (x : Name) (e : Expr) (more : Stmts) (r : Result ℤ Trap) (f : List Var) → and_then (eval ds (above (unset t x ∷ f) s) e) (convert t) ≡ r →
        exec_all n env (more_stmts (decl t x (Some e)) more) (above f s) ≡ then_do (with_value r (above (unset t x ∷ f) s) (λ z. ends Next (push x (scalar t (Some z)) (above f s)))) (exec_all n env more)
    declares_one t x e more r f h = ap (λ o. then_do (with_value o (above (unset t x ∷ f) s) (λ z. ends Next (push x (scalar t (Some z)) (above f s)))) (exec_all n env more)) h

    begins_as : (r : Result ℤ Trap) → and_then (eval ds s c.lb) (convert T) ≡ r → (f : List Var) → Foreign Out f → and_then (eval ds (above (unset T m.begin ∷ f) s) c.lb) (convert T) ≡ r
    begins_as r e f o = ap (λ x. and_then x (convert T)) (source_value Out ds c.lb source.lb (unset T m.begin ∷ f) s (source.fresh.0, o)) ∙ e

    ends_as : (r : Result ℤ Trap) → and_then (eval ds s c.ub) (convert T) ≡ r → (f : List Var) → Foreign Out f → and_then (eval ds (above (unset T m.end ∷ f) s) c.ub) (convert T) ≡ r
    ends_as r e f o = ap (λ x. and_then x (convert T)) (source_value Out ds c.ub source.ub (unset T m.end ∷ f) s (source.fresh.1, o)) ∙ e

    counts_as : (lb ub : ℤ) (r : Result ℕ Trap) → count c.test c.step lb ub ≡ r → and_then (eval ds s c.lb) (convert T) ≡ Ok lb → and_then (eval ds s c.ub) (convert T) ≡ Ok ub → (f : List Var) →
        and_then (eval ds (above (unset Long m.count ∷ var_of m.end ub ∷ var_of m.begin lb ∷ f) s) count_) (convert Long) ≡ and_then r (λ k. Ok (pos k))
    counts_as lb ub r e e0 e1 f =
        w.count_is lb ub (held T (eval ds s c.lb) lb e0) (held T (eval ds s c.ub) ub e1) (unset Long m.count ∷ var_of m.end ub ∷ var_of m.begin lb ∷ f) s
        (rw (source.apart.begin_count, source.apart.begin_end, same_name m.begin) refl) (rw (source.apart.end_count, same_name m.end) refl)
        ∙ ap (λ r. and_then r (λ k. Ok (pos k))) e

    front_runs : (lb ub : ℤ) (r : Result ℕ Trap) → count c.test c.step lb ub ≡ r → and_then (eval ds s c.lb) (convert T) ≡ Ok lb → and_then (eval ds s c.ub) (convert T) ≡ Ok ub → (f : List Var) → Foreign Out f →
        exec_all n env front (above f s) ≡ then_do (with_value (and_then r (λ k. Ok (pos k))) (above (unset Long m.count ∷ var_of m.end ub ∷ var_of m.begin lb ∷ f) s) (λ z. ends Next (push m.count (scalar Long (Some z)) (above (var_of m.end ub ∷ var_of m.begin lb ∷ f) s)))) (exec_all n env rest)
    front_runs lb ub r e e0 e1 f o =
        let v = var_of m.begin lb in
        let u = var_of m.end ub in
        declares_one T m.begin c.lb ended (Ok lb) f (begins_as (Ok lb) e0 f o) ∙ declares_one T m.end c.ub counted (Ok ub) (v ∷ f) (ends_as (Ok ub) e1 (v ∷ f) (source.fresh.0, o))
        ∙ declares_one Long m.count count_ rest (and_then r (λ k. Ok (pos k))) (u ∷ v ∷ f) (counts_as lb ub r e e0 e1 f)

    -- the count is in reach
    stops : (lb ub : ℤ) (k : ℕ) → count c.test c.step lb ub ≡ Ok k → (h p : List Var) → find m.count h ≡ None → Value ds (AgreesBut m.counter ((h ++ fronts lb ub k) ++ p)) (read m.count) (0 + k)
    stops lb ub k e h p new =
        let l = fronts lb ub k in
        let frame = (h ++ l) ++ p in
        let found : find m.count frame ≡ Some (scalar Long (Some (pos k))) =
        ap (find m.count) (append_assoc h l p) ∙ find_append m.count h (l ++ p) ∙ ap (λ o. or_else o (find m.count (l ++ p))) new ∙ found_top m.count k (var_of m.end ub ∷ var_of m.begin lb ∷ p) in
        let same : k ≡ 0 + k = omega arith in
        subst (Value ds (AgreesBut m.counter frame) (read m.count)) same (value_read ds (AgreesBut m.counter frame) m.count k (count_fits c.test c.step lb ub k e) (λ f a. found_but m.counter m.count _ frame f a source.apart.count_counter found))

    none_fronts : (lb ub : ℤ) (k : ℕ) (p : List Var) → HasNone (with_names m own) p → HasNone own (fronts lb ub k ++ p)
    none_fronts lb ub k p none =
        has_none_push (long m.count k) own (var_of m.end ub ∷ var_of m.begin lb ∷ p) new.2 (has_none_push (var_of m.end ub) own (var_of m.begin lb ∷ p) new.1 (has_none_push (var_of m.begin lb) own p new.0 none.1.1.1.1))

    -- one turn: the fresh variables above a frame that has none of them
    module _ (lb ub : ℤ) (k : ℕ) (e : count c.test c.step lb ub ≡ Ok k) (e0 : and_then (eval ds s c.lb) (convert T) ≡ Ok lb) (e1 : and_then (eval ds s c.ub) (convert T) ≡ Ok ub) (p : List Var) (none : HasNone (with_names m own) p) where
      abbrev inside : ℕ → List Var
      inside i = long m.counter (0 + i) ∷ (fronts lb ub k ++ p)

      fits_inside : (i : ℕ) → Agrees p (inside i)
      fits_inside i =
          agrees_new (long m.counter (0 + i)) p (fronts lb ub k ++ p) none.1.1.1.0 (agrees_new (long m.count k) p (var_of m.end ub ∷ var_of m.begin lb ∷ p) none.1.1.0
          (agrees_new (var_of m.end ub) p (var_of m.begin lb ∷ p) none.1.0 (agrees_new (var_of m.begin lb) p p none.0 (agrees_same p))))

      none_inside : (i : ℕ) → HasNone own (inside i)
      none_inside i = has_none_push (long m.counter (0 + i)) own (fronts lb ub k ++ p) new.3 (none_fronts lb ub k p none)

      given_inside : (i : ℕ) → i < k → (os : List Outer) (zs : List ℤ) → Given Out ds p os zs → Given Out ds (inside i) (os ++ var_declared ∷ []) (zs ++ value_at (range_ lb ub k) i ∷ [])
      given_inside i l os zs h =
          given_more Out ds (inside i) os zs var_declared (value_at (range_ lb ub k) i) source.var
          (λ f u a. w.value_is lb ub (held T (eval ds s c.lb) lb e0) (held T (eval ds s c.ub) ub e1) k i e l f u
          (a m.begin _ source.fresh.0 (rw (source.apart.begin_counter, source.apart.begin_count, source.apart.begin_end, same_name m.begin) refl))
          (a m.counter _ source.fresh.3 (found_top m.counter (0 + i) (fronts lb ub k ++ p))))
          (given_in Out n env p (inside i) os zs (λ x d o q. fits_inside i x d q) h)

    step_apart : (b : Bool) (k : ℕ) → Names (λ y. Apart y own) (signed_literal b k)
    step_apart true k = tt
    step_apart false k = tt

    -- the loop's own variable besides: its value names the begin and the counter
    apart_inside : (os : List Outer) → ValuesApart (with_names m own) os → ValuesApart own (os ++ var_declared ∷ [])
    apart_inside [] h = ((new.0, (new.3, step_apart (is_up c.step) (nat_abs c.step))), tt)
    apart_inside (d ∷ os) h = (names_more (λ y. Apart y (with_names m own)) (λ y. Apart y own) (λ y a. a.1.1.1.1) d.value h.0, apart_inside os h.1)

    by_inner : (lb ub : ℤ) (k : ℕ) → count c.test c.step lb ub ≡ Ok k → and_then (eval ds s c.lb) (convert T) ≡ Ok lb → and_then (eval ds s c.ub) (convert T) ≡ Ok ub → (r : Result (List Tree) Trap) → InnerWithin r →
        LoopWithin (and_then r (λ ts. Ok (loop_over (range_ lb ub k) ts)))
    by_inner lb ub k e e0 e1 (Err x) h = λ f o.
        let d = h (fronts lb ub k ++ f) (source.fresh.2, (source.fresh.1, (source.fresh.0, o))) in
        (d.0 ++ fronts lb ub k, front_runs lb ub (Ok k) e e0 e1 f o ∙ d.1 ∙ ap {B = Run} (λ l. ends (Trapped x) (above l s)) (sym (append_assoc d.0 (fronts lb ub k) f)))
    by_inner lb ub k e e0 e1 (Ok []) h = absurd h
    by_inner lb ub k e e0 e1 (Ok (t ∷ u ∷ ts)) h = absurd h
    by_inner lb ub k e e0 e1 (Ok (t ∷ [])) h =
        let l = fronts lb ub k in
        let v = var_of m.begin lb in
        let u = var_of m.end ub in (
          h.0 ++ l,
          (
            both_foreign Out h.0 l h.1.0 (source.fresh.2, (source.fresh.1, (source.fresh.0, tt))),
            (λ f a o. front_runs lb ub (Ok k) e e0 e1 f o ∙ h.1.1 (l ++ f) (λ x c e. absurd (not_none c e)) (source.fresh.2, (source.fresh.1, (source.fresh.0, o))) ∙ ap {B = Run} (λ l. ends Next (above l s)) (sym (append_assoc h.0 l f))),
            λ x y. find_append x h.0 l ∙ ap (λ o. or_else o (find x l)) (h.1.2 x y.1.1.1) ∙ find_other x (long m.count k) (u ∷ v ∷ []) y.1.1.0 (find_other x u (v ∷ []) y.1.0 (find_other x v [] y.0 refl)),
          ),
          (λ p none.
              let frame = (h.0 ++ l) ++ p in
              let F = AgreesBut m.counter frame in
              (frame, refl, 0, k, value_num ds F 0 (omega arith), stops lb ub k e h.0 p (h.1.2 m.count unseen.0), subst (SteadyBelow n env bs Out bare) (sym (append_assoc h.0 l p)) (h.2 (l ++ p) (none_fronts lb ub k p none)))),
          λ p os zs none is given others.
              let frame = (h.0 ++ l) ++ p in
              let same : frame ≡ h.0 ++ (l ++ p) = append_assoc h.0 l p in
              record {
                frame = frame;
                lets = refl;
                first = 0;
                width = k;
                begins = value_num ds (AgreesBut m.counter frame) 0 (omega arith);
                stops = stops lb ub k e h.0 p (h.1.2 m.count unseen.0);
                foreign = source.fresh.3;
                child = λ i. puts zs (put (value_at (range_ lb ub k) i) t);
                shape = puts_loop zs k (λ i. put (value_at (range_ lb ub k) i) t);
                below = λ i y.
                    let v3 = long m.counter (0 + i) in
                    let z = value_at (range_ lb ub k) i in
                    let one = h.3 (v3 ∷ (l ++ p)) (os ++ var_declared ∷ []) (zs ++ z ∷ []) (none_inside lb ub k e e0 e1 p none i) (typed_more os var_declared ∙ ap (λ xs. xs ++ (c.var, T) ∷ []) is) (given_inside lb ub k e e0 e1 p none i y os zs given) (apart_inside os others) in
                    let moved : Agrees (h.0 ++ v3 ∷ (l ++ p)) (v3 ∷ frame) = subst (λ g. Agrees (h.0 ++ v3 ∷ (l ++ p)) (v3 ∷ g)) (sym same) (agrees_below v3 h.0 (l ++ p) (h.1.2 m.counter unseen.1)) in
                    inner_more n env bs Out (code (os ++ var_declared ∷ [])) (h.0 ++ v3 ∷ (l ++ p)) (v3 ∷ frame) (puts zs (put z t)) moved (subst (InnerMeans n env bs Out (code (os ++ var_declared ∷ [])) (h.0 ++ v3 ∷ (l ++ p))) (puts_more zs z t) one);
              },
        )

    module _ (r : Result (List Tree) Trap) (inner : InnerWithin r) where
      abbrev last : Range → Result (List Tree) Trap
      last e = and_then r (λ ts. Ok (loop_over e ts))

      by_count : (lb ub : ℤ) (k : Result ℕ Trap) → count c.test c.step lb ub ≡ k → and_then (eval ds s c.lb) (convert T) ≡ Ok lb → and_then (eval ds s c.ub) (convert T) ≡ Ok ub →
          LoopWithin (and_then k (λ k. last (range_ lb ub k)))
      by_count lb ub (Ok k) e e0 e1 = by_inner lb ub k e e0 e1 r inner
      by_count lb ub (Err x) e e0 e1 = λ f o. (unset Long m.count ∷ var_of m.end ub ∷ var_of m.begin lb ∷ [], front_runs lb ub (Err x) e e0 e1 f o)

      by_bounds : (r0 r1 : Result ℤ Trap) → and_then (eval ds s c.lb) (convert T) ≡ r0 → and_then (eval ds s c.ub) (convert T) ≡ r1 →
          LoopWithin (and_then r0 (λ lb. and_then r1 (λ ub. and_then (count c.test c.step lb ub) (λ k. last (range_ lb ub k)))))
      by_bounds (Err x) r1 e0 e1 = λ f o. (unset T m.begin ∷ [], declares_one T m.begin c.lb ended (Err x) f (begins_as (Err x) e0 f o))
      by_bounds (Ok lb) (Err x) e0 e1 = λ f o.
          let v = var_of m.begin lb in
          (unset T m.end ∷ v ∷ [], declares_one T m.begin c.lb ended (Ok lb) f (begins_as (Ok lb) e0 f o) ∙ declares_one T m.end c.ub counted (Err x) (v ∷ f) (ends_as (Err x) e1 (v ∷ f) (source.fresh.0, o)))
      by_bounds (Ok lb) (Ok ub) e0 e1 = by_count lb ub (count c.test c.step lb ub) refl e0 e1

      abbrev from_count : ℤ → ℤ → Ty → Result Range Trap
      from_count lb ub u = and_then (count c.test c.step lb ub) (λ k. Ok (record { var = c.var; ty = u; from = lb; step = c.step; count = k }))

      abbrev from_ub : ℤ → Ty → Result Range Trap
      from_ub lb u = and_then (eval ds s c.ub) (λ z. and_then (convert u z) (λ ub. from_count lb ub u))

      abbrev from_lb : Ty → Result Range Trap
      from_lb u = and_then (eval ds s c.lb) (λ z. and_then (convert u z) (λ lb. from_ub lb u))

      abbrev split_entry : Result (List Tree) Trap
      split_entry = and_then (and_then (eval ds s c.lb) (convert T)) (λ lb. and_then (and_then (eval ds s c.ub) (convert T)) (λ ub. and_then (count c.test c.step lb ub) (λ k. last (range_ lb ub k))))

      split : and_then (from_lb T) last ≡ split_entry
      split =
          bound_first (eval ds s c.lb) (convert T) (λ lb. from_ub lb T) last ∙ value_same (and_then (eval ds s c.lb) (convert T)) _ _ (λ lb.
          bound_first (eval ds s c.ub) (convert T) (λ ub. from_count lb ub T) last ∙ value_same (and_then (eval ds s c.ub) (convert T)) _ _ (λ ub.
          then_all (count c.test c.step lb ub) _ last))

      -- the loop over what is inside
      pub loop_within : loop_type ds s c ≡ T → LoopWithin (and_then (entry ds s c) last)
      loop_within t = subst LoopWithin (sym (ap (λ u. and_then (from_lb u) last) t ∙ split)) (by_bounds _ _ refl refl)
