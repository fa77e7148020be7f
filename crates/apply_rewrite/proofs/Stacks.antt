-- The block of a stack of reverse directives does what the construct does.
use Rattle.std.proofs.Common.{◌≡◌, refl, sym, ap, ◌∙◌, subst, ℕ, zero, suc, List, [], ◌∷◌, ◌++◌, length, Option, Some, None, Result, Ok, Err, Bool, true, false, ℤ, slice_get, arith, append-nil, lit≤}
use Rattle.std.specs.Prelude.{bytes_eq, if◌then◌else◌, unwrap_or}
use Rattle.c_tree.specs.Bare.{Name, Expr, read, omp, Directive, Stmts, no_stmts, Head, head, MaybeStmt}
use Rattle.c_tree.specs.declared.tree.Ty.{Ty}
use Rattle.c_tree.specs.declared.arithmetic.Trap.{Trap}
use Rattle.c_tree.specs.Arithmetic.{and_then}
use Rattle.c_semantics.specs.Meaning.State.{Cell, State, or_else, look}
use Rattle.c_semantics.specs.Meaning.Expressions.{Define, cell_type, name_type}
use Rattle.c_semantics.specs.Meaning.Runs.{Meaning, loop_end}
use Rattle.c_semantics.specs.Meaning.SimpleStatements.{Function, Env, function_named}
use Rattle.c_semantics.specs.Meaning.Statements.{exec, exec_all, bodies_all}
use Rattle.c_semantics.specs.Meaning.FileVariables.{has_name}
use Rattle.c_semantics.specs.Loops.CanonicalForm.{Canonical, Init, Test, canonical, init, test, increment, is_step_for, with_step, with_test, with_init}
use Rattle.c_semantics.specs.Loops.TripCount.{Range, entry, loop_type}
use Rattle.c_semantics.specs.Loops.IterationTrees.{Tree, body}
use Rattle.c_semantics.specs.Loops.Transformations.{transform, reverse_, Plan, apply_plan}
use Rattle.c_semantics.specs.Loops.Directives.{plan_of}
use Rattle.c_semantics.specs.Loops.Need.{loops_asked}
use Rattle.c_semantics.specs.Loops.Forest.{loop_over, enter, both_lists, nest_all}
use Rattle.c_semantics.specs.Loops.Execution.{Body, run_body, run_forest, loop_var}
use Rattle.c_semantics.specs.Laws.Apart.{Differ}
use Rattle.c_semantics.proofs.Invariant.{FunctionKeeps, list_keeps}
use Rattle.c_semantics.proofs.Grows.{LongerFrame, frames_grow}
use Rattle.loop_normal.specs.Gens.{gen_loop, Inner, Looped, no_parts, more_parts, Gen}
use Rattle.loop_normal.specs.Templates.{ll, LoopNames, SourceLoop, leaf, source_front}
use Rattle.loop_normal.specs.Denotes.{Calm, GrowsFrame, BodyGrows, GenMeans}
use Rattle.loop_normal.specs.FreshNames.{Among, Apart, AreApart}
use Rattle.loop_normal.specs.Laws.{source_loop}
use Rattle.loop_normal.proofs.FreshFrames.{same_name, differ_sym, find_append, not_none}
use Rattle.loop_normal.proofs.Blocks.{gen_runs}
use Rattle.loop_normal.proofs.Leaf.{leaf_means}
use Rattle.loop_normal.proofs.Values.{worth}
use Rattle.permute_reverse.specs.Reversed.{reversed_gen}
use Rattle.permute_reverse.proofs.Reverse.{reverse_means}
use Rattle.c_scopes.specs.Types.{type_held, HasTypes}
use Rattle.carried_out.specs.CarriedOut.{variable_type}
use Rattle.carried_out.specs.Reversible.{is_reversal}
use Rattle.carried_out.proofs.LoopsAsked.{asks_one}
use Rattle.carried_out.proofs.SpentNames.{Each}
use Rattle.apply_rewrite.specs.ReverseStacks.{times_after, LeadsTo, loop_here, in_braces, in_directive, reversed_all, stack_block, all_names, IsStack}
use Rattle.carried_out.specs.DistinctNames.{AllApart}
use Rattle.apply_rewrite.proofs.Reversals.{stacked, trees_reversed}
use Rattle.apply_rewrite.proofs.Breaks.{body_never}

-- ---- names

among_here : (x : Name) (xs : List Name) → Among (x ∷ xs) x
among_here x xs = ap (λ t. if t then true else has_name xs x) (same_name x)

among_there : (x y : Name) (xs : List Name) → Among xs x → Among (y ∷ xs) x
among_there x y xs h = by (bytes_eq x y)
  where
    by : (t : Bool) → (if t then true else has_name xs x) ≡ true
    by true = refl
    by false = h

all_among : (ys xs : List Name) → ((x : Name) → Among xs x → Among ys x) → Each (Among ys) xs
all_among ys [] f = tt
all_among ys (x ∷ xs) f = (f x (among_here x xs), all_among ys xs (λ z a. f z (among_there z x xs a)))

-- ---- what the stack's trees are

both_nil : (r : Result (List Tree) Trap) → both_lists r (Ok []) ≡ r
both_nil (Err x) = refl
both_nil (Ok ts) = ap {B = Result (List Tree) Trap} Ok (append-nil ts)

-- what a range gives
abbrev pub shown : ℕ → Result Range Trap → Result (List Tree) Trap
shown k e = and_then e (λ r. Ok (stacked k (loop_over r (body 0 [] ∷ []))))

one_more : (p : Plan) → is_reversal p ≡ true → (k : ℕ) (e : Result Range Trap) → and_then (shown k e) (λ ts. Ok (apply_plan p ts)) ≡ shown (times_after p k) e
one_more p h k (Err x) = refl
one_more p h k (Ok r) = ap {B = Result (List Tree) Trap} Ok (trees_reversed p h k _)

module _ (n : ℕ) (env : Env) (s : State) where
  nest_is : (k : ℕ) (h : Head) (a as' : Stmts) → LeadsTo env.defines k h a as' → nest_all apply_plan env.defines s 0 1 as' ≡ shown k (enter env.defines s (canonical env.defines h))
  nest_is k h a as' (loop_here g b) = both_nil _
  nest_is k h a as' (in_braces {k = j} {h = g} {a = b} {b = c} p) = both_nil _ ∙ nest_is j g b c p
  nest_is k h a as' (in_directive {k = j} {h = g} {a = b} {b = c} d r p) =
      both_nil _ ∙ ap (λ i. and_then (nest_all apply_plan env.defines s 0 i c) (λ ts. Ok (apply_plan (plan_of env.defines d) ts))) (asks_one (plan_of env.defines d) 1 (lit≤ tt) r)
      ∙ ap (λ x. and_then x (λ ts. Ok (apply_plan (plan_of env.defines d) ts))) (nest_is j g b c p) ∙ one_more (plan_of env.defines d) r j (enter env.defines s (canonical env.defines g))

  abbrev one_with : Option Canonical → Meaning → List Body
  one_with o f = record { vars = loop_var env.defines s o; run = f } ∷ []

  bodies_are : (k : ℕ) (h : Head) (a as' : Stmts) → LeadsTo env.defines k h a as' → bodies_all n env s [] 1 as' ≡ one_with (canonical env.defines h) (exec_all n env a)
  bodies_are k h a as' (loop_here (head i e next) b) = refl
  bodies_are k h a as' (in_braces {k = j} {h = g} {a = b} {b = c} p) = append-nil _ ∙ bodies_are j g b c p
  bodies_are k h a as' (in_directive {k = j} {h = g} {a = b} {b = c} d r p) =
      append-nil _ ∙ ap (λ i. bodies_all n env s [] i c) (asks_one (plan_of env.defines d) 1 (lit≤ tt) r) ∙ bodies_are j g b c p

-- ---- the step of a canonical loop fits its test

abbrev canonical_in : Canonical → Option Canonical → Canonical
canonical_in c None = c
canonical_in c (Some d) = d

abbrev Fits : Option Canonical → Type 0
Fits o = (c : Canonical) → o ≡ Some c → is_step_for c.test c.step ≡ true

none_fits : Fits None
none_fits c e = absurd (not_none c e)

some_fits : (d : Canonical) → is_step_for d.test d.step ≡ true → Fits (Some d)
some_fits d k c e = subst (λ x. is_step_for x.test x.step ≡ true) (ap (canonical_in d) e) k

step_fits : (i : Init) (t : Test) (o : Option ℤ) → Fits (with_step i t o)
step_fits i t None = none_fits
step_fits i t (Some z) = by (is_step_for t.op z) refl
  where
    by : (b : Bool) → is_step_for t.op z ≡ b → Fits (if b then Some (record { var = i.var; ty = i.ty; lb = i.lb; ub = t.ub; test = t.op; step = z }) else None)
    by true k = some_fits _ k
    by false k = none_fits

tested_fits : (ds : List Define) (m : MaybeStmt) (i : Init) (t : Option Test) → Fits (with_test ds m i t)
tested_fits ds m i None = none_fits
tested_fits ds m i (Some t) = step_fits i t (increment ds i.var m)

begun_fits : (ds : List Define) (e : Option Expr) (m : MaybeStmt) (i : Option Init) → Fits (with_init ds e m i)
begun_fits ds e m None = none_fits
begun_fits ds e m (Some i) = tested_fits ds m i (test i.var e)

canonical_fits : (ds : List Define) (h : Head) → Fits (canonical ds h)
canonical_fits ds (head i e m) = begun_fits ds e m (init i)

-- ---- a Gen reversed several times

ok_same : (r : Result (List Tree) Trap) → and_then r (λ ts. Ok ts) ≡ r
ok_same (Err x) = refl
ok_same (Ok ts) = refl

then_stacked : (k : ℕ) (r : Result (List Tree) Trap) → and_then (and_then r (λ ts. Ok (transform reverse_ ts))) (λ ts. Ok (stacked k ts)) ≡ and_then r (λ ts. Ok (stacked (suc k) ts))
then_stacked k (Err x) = refl
then_stacked k (Ok ts) = refl

module _ (n : ℕ) (env : Env) (bs : List Body) (Out : Name → Type 0) (calm : Calm bs) (m : LoopNames) (h : SourceLoop) where
  abbrev gen_of : Name → Expr → Inner → Gen
  gen_of c b inner = record { front = source_front m h no_stmts; parts = more_parts (Looped (gen_loop no_stmts c (ll 0) b inner)) no_parts }

  reverse_step : (r c : Name) (b : Expr) (inner : Inner) (s : State) (R : Result (List Tree) Trap) → Out r → Differ r m.begin → Differ r m.end → Differ r m.count → Differ r c →
      GenMeans n env bs Out (gen_of c b inner) [] s R → GenMeans n env bs Out (reversed_gen r (gen_of c b inner)) [] s (and_then R (λ ts. Ok (transform reverse_ ts)))
  reverse_step r c b inner s (Err x) o d0 d1 d2 d3 g = g
  reverse_step r c b inner s (Ok []) o d0 d1 d2 d3 g = absurd g.2
  reverse_step r c b inner s (Ok (t ∷ [])) o d0 d1 d2 d3 g =
      let new = g.1.2 r (d0, (d1, (d2, tt))) in
      let none = find_append r g.0 [] ∙ ap (λ o. or_else o None) new in
      (g.0, g.1, ((reverse_means n env bs Out calm r o no_stmts c b inner (g.0 ++ []) t tt none d3 g.2.0.0, tt), tt))
  reverse_step r c b inner s (Ok (t ∷ u ∷ ts)) o d0 d1 d2 d3 g = absurd g.2.1

  stack_means : (rs : List Name) (c : Name) (b : Expr) (inner : Inner) (s : State) (R : Result (List Tree) Trap) → Each Out rs → Apart m.begin rs → Apart m.end rs → Apart m.count rs → Apart c rs → AllApart rs →
      GenMeans n env bs Out (gen_of c b inner) [] s R → GenMeans n env bs Out (reversed_all rs (gen_of c b inner)) [] s (and_then R (λ ts. Ok (stacked (length rs) ts)))
  stack_means [] c b inner s R o d0 d1 d2 d3 all g = subst (GenMeans n env bs Out (gen_of c b inner) [] s) (sym (ok_same R)) g
  stack_means (r ∷ rs) c b inner s R o d0 d1 d2 d3 all g =
      let once = reverse_step r c b inner s R o.0 d0.0 d1.0 d2.0 d3.0 g in
      subst (GenMeans n env bs Out (reversed_all rs (reversed_gen r (gen_of c b inner))) [] s) (then_stacked (length rs) R)
      (stack_means rs r b _ s _ o.1 d0.1 d1.1 d2.1 all.0 all.1 once)

-- ---- the whole

function_longer : (f : Option Function) → FunctionKeeps LongerFrame frames_grow f
function_longer None = tt
function_longer (Some f) = λ vs s. omega arith

module _ (n : ℕ) (env : Env) where
  abbrev ds : List Define
  ds = env.defines

  abbrev one_body : Name → Ty → Stmts → List Body
  one_body x T a = record { vars = (x, T) ∷ []; run = exec_all n env a } ∷ []

  -- the entry's answer, in either order
  after_entry : (k j : ℕ) (e : Result Range Trap) → k ≡ j → and_then (and_then e (λ r. Ok (loop_over r (body 0 [] ∷ [])))) (λ ts. Ok (stacked k ts)) ≡ shown j e
  after_entry k j (Err x) e = refl
  after_entry k j (Ok r) e = ap {B = Result (List Tree) Trap} (λ i. Ok (stacked i (loop_over r (body 0 [] ∷ [])))) e

  -- the variable has its type in the state
  pub typed_in : (scope s : State) → HasTypes scope s → (c : Canonical) (T : Ty) → variable_type scope c.ty c.var ≡ Some T → loop_type ds s c ≡ T
  typed_in scope s g c T = by c.ty
    where
      some_is : (t u : Ty) → Some t ≡ Some u → t ≡ u
      some_is t u e = cc

      held_is : (o : Option Cell) → type_held o ≡ Some T → name_type o ds c.var ≡ T
      held_is None e = absurd (cc)
      held_is (Some x) e = some_is (cell_type x) T e

      by : (o : Option Ty) → variable_type scope o c.var ≡ Some T → unwrap_or o (name_type (look s c.var) ds c.var) ≡ T
      by (Some t) e = some_is t T e
      by None e = held_is (look s c.var) (g.seen c.var T e)

  -- what a construct is whose directives lead to a loop
  pub construct_is : (d : Directive) (k : ℕ) (h : Head) (c : Canonical) (T : Ty) (as' a : Stmts) (s : State) → is_reversal (plan_of ds d) ≡ true → LeadsTo ds k h a as' → canonical ds h ≡ Some c → loop_type ds s c ≡ T →
      exec n env (omp d as') s ≡ run_forest n (shown (times_after (plan_of ds d) k) (entry ds s c)) (one_body c.var T a) s
  construct_is d k h c T as' a s r leads form type_ =
      let p = plan_of ds d in
      let one : loops_asked p 0 ≡ 1 = asks_one p 0 (lit≤ tt) r in
      let trees = ap (λ i. and_then (nest_all apply_plan ds s 0 i as') (λ ts. Ok (apply_plan p ts))) one
      ∙ ap (λ x. and_then x (λ ts. Ok (apply_plan p ts))) (nest_is n env s k h a as' leads) ∙ one_more p r k (enter ds s (canonical ds h)) ∙ ap (λ o. shown (times_after p k) (enter ds s o)) form in
      let bodies = ap (λ i. bodies_all n env s [] i as') one ∙ bodies_are n env s k h a as' leads ∙ ap (λ o. one_with n env s o (exec_all n env a)) form
      ∙ ap {B = List Body} (λ u. record { vars = (c.var, u) ∷ []; run = exec_all n env a } ∷ []) type_ in
      ap (λ x. run_forest n x (bodies_all n env s [] (loops_asked p 0) as') s) trees ∙ ap (λ l. run_forest n (shown (times_after p k) (entry ds s c)) l s) bodies

  -- what the block of a stack is
  pub stack_is : (scope s : State) → HasTypes scope s → (j : ℕ) (h : Head) (c : Canonical) (T : Ty) (m : LoopNames) (rs : List Name) (b : Stmts) → length rs ≡ j → IsStack ds scope h c T m rs b →
      exec n env (stack_block m rs c T b) s ≡ run_forest n (shown j (entry ds s c)) (one_body c.var T b) s
  stack_is scope s has j h c T m rs b many stack =
      let names = all_names m rs in
      let Out = Among names in
      let one : List Body = one_body c.var T b in
      let grows = list_keeps LongerFrame frames_grow n env (λ x. function_longer (function_named x env.functions)) b in
      let calm : Calm one = record { grow = body_grows grows; stays = body_stays } in
      let type_ = typed_in scope s has c T stack.typed in
      let d0 = stack.once.0 in
      let d1 = stack.once.1.0 in
      let d2 = stack.once.1.1.0 in
      let d3 = stack.once.1.1.1.0 in
      let apart : AreApart m = record {
        begin_end = differ_sym m.end m.begin d0.0;
        begin_count = differ_sym m.count m.begin d0.1.0;
        begin_counter = differ_sym m.counter m.begin d0.1.1.0;
        end_count = differ_sym m.count m.end d1.0;
        count_counter = differ_sym m.counter m.count d2.0;
      } in
      let l3 = m.counter ∷ rs in
      let l2 = m.count ∷ l3 in
      let l1 = m.end ∷ l2 in
      let in_begin = among_here m.begin l1 in
      let in_end = among_there m.end m.begin l1 (among_here m.end l2) in
      let in_count = among_there m.count m.begin l1 (among_there m.count m.end l2 (among_here m.count l3)) in
      let in_counter = among_there m.counter m.begin l1 (among_there m.counter m.end l2 (among_there m.counter m.count l3 (among_here m.counter rs))) in
      let all = all_among names rs (λ x i. among_there x m.begin l1 (among_there x m.end l2 (among_there x m.count l3 (among_there x m.counter rs i)))) in
      let fits = canonical_fits ds h c stack.form in
      let leafed = leaf_means n env Out one c T m b (worth ds c T m fits) apart 0 refl stack.named grows stack.variable stack.begin stack.end (in_begin, in_end, in_count, in_counter) [] s type_ in
      let means = stack_means n env one Out calm m (source_loop c T) rs m.counter (read m.count) _ s _ all d0.1.1.1 d1.1.1 d2.1 d3 stack.once.1.1.1.1 leafed in
      gen_runs n env one Out calm (reversed_all rs (leaf m (source_loop c T) b)) s _ means ∙ ap (λ r. run_forest n r one s) (after_entry (length rs) j (entry ds s c) many)
    where
      body_grows : GrowsFrame (exec_all n env b) → (i : ℕ) → BodyGrows (slice_get (one_body c.var T b) i)
      body_grows g zero = g
      body_grows g (suc i) = tt

      body_stays : (i : ℕ) (zs : List ℤ) (s : State) → loop_end (run_body (slice_get (one_body c.var T b) i) zs s).end ≡ (run_body (slice_get (one_body c.var T b) i) zs s).end
      body_stays zero zs s = (body_never n env ((c.var, T) ∷ []) b stack.no_breaks zs s).is
      body_stays (suc i) zs s = refl
