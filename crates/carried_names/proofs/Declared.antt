-- The names that a carried-out program declares are those of the source, and fresh ones.
use Rattle.std.proofs.Common.{◌≡◌, refl, sym, ap, subst, ℕ, List, [], ◌∷◌, map, Option, Some, None, Bool, true, false, ◌||◌, ◌⊎◌, inl, inr, ℤ}
use Rattle.std.specs.Prelude.{bytes_eq, is_some, if◌then◌else◌}
use Rattle.std.proofs.lemmas.Bool.{both_ways, and_parts}
use Rattle.c_tree.specs.Bare as b
use Rattle.c_tree.specs.Bare.{Name, Expr, read, bin, no_exprs, more_exprs, target, Stmt, decl, set, step, print, input, if_, if_else, while_, do_, for_, block, break_, continue_, empty, omp, call, Stmts, no_stmts, more_stmts, head, MaybeStmt, no_stmt, a_stmt}
use Rattle.c_tree.specs.Placed.{Param}
use Rattle.c_tree.specs.declared.tree.Ty.{Ty}
use Rattle.c_tree.specs.declared.tree.SetOp.{SetOp}
use Rattle.c_tree.specs.declared.tree.SetOp.TheVariants as to
use Rattle.c_tree.specs.declared.tree.BinOp.TheVariants.{Sub}
use Rattle.c_tree.specs.WellFormed.{WellFormedStmt, WellFormedStmts, MayBegin, MayEnd}
use Rattle.c_tree.specs.NameRules.DeclaredNames.{is_among, with_name, with_stmt, with_stmts, with_part, with_head, with_params}
use Rattle.c_semantics.specs.Meaning.State.{Cell, scalar, State, find, or_else, push}
use Rattle.c_semantics.specs.Meaning.Expressions.{Define}
use Rattle.c_semantics.specs.Loops.CanonicalForm.{Canonical, Init, Test, canonical, init, test, increment, is_step_for, with_step, with_test, with_init}
use Rattle.c_semantics.specs.Loops.Directives.{plan_of}
use Rattle.c_semantics.specs.Loops.Transformations.{Transformation, reverse_, Plan, plan, Applied, none_applied, applied_at}
use Rattle.c_semantics.specs.Structure.Skeleton.{scope_after, scope_in}
use Rattle.c_scopes.specs.Types.{type_held, type_seen}
use Rattle.c_scopes.specs.Types as types
use Rattle.c_soundness.specs.Unplaced.{unplaced_stmt, unplaced_stmts, unplaced_part, unplaced_head, unplaced_param}
use Rattle.c_soundness.proofs.Files.{one_name, stays_in, stmts_keep}
use Rattle.loop_normal.specs.Gens.{gen_loop, Seq, Looped, Plain, Parts, no_parts, more_parts, Gen, join, let_stmt, parts_stmts, emit}
use Rattle.loop_normal.specs.Templates.{ll, only, SourceLoop, leaf, source_var, begins_at_zero, on_first}
use Rattle.loop_normal.specs.DrawnNames.{FreshNames, drawn, after_draw, after_draws, loop_names}
use Rattle.loop_normal.specs.FromZero.{from_zero, after_from_zero}
use Rattle.loop_normal.specs.Laws.{source_loop}
use Rattle.loop_normal.proofs.FreshFrames.{same_name}
use Rattle.permute_reverse.specs.Reversed.{reversed, reversed_gen}
use Rattle.carried_out.specs.CarriedOut.{Made, made_leaf, made_reverse, transformed, planned, items_applied, variable_type, with_type, where_typed, loop_at, scope_below, in_head, carried, carried_all, nest, nest_in}
use Rattle.carried_out.specs.Reversible.{all_stay_in, is_reversal, is_reversible, are_reversible, is_nest, is_nest_in}
use Rattle.carried_names.proofs.Fresh.{Fresh, Source, Reached, reached_more, drawn_fresh}
use Rattle.carried_out.proofs.FromZero.{stays_from_zero, draws_none}

-- ---- a name more

pub own_in : (y : Name) (ns : List Name) → is_among y (with_name y ns) ≡ true
own_in y [] = ap (λ t. t || false) (same_name y)
own_in y (z ∷ ns) = by (own_in y ns) (bytes_eq y z) refl
  where
    or_right : (a b : Bool) → b ≡ true → (a || b) ≡ true
    or_right true b h = refl
    or_right false b h = h

    by : is_among y (with_name y ns) ≡ true → (t : Bool) → bytes_eq y z ≡ t → is_among y (if t then z ∷ ns else z ∷ with_name y ns) ≡ true
    by rest true q = ap (λ t. t || is_among y ns) q
    by rest false q = or_right (bytes_eq y z) (is_among y (with_name y ns)) rest

or_cases : (a b : Bool) → (a || b) ≡ true → (a ≡ true) ⊎ (b ≡ true)
or_cases true b h = inl refl
or_cases false b h = inr h

or_left : (a b : Bool) → a ≡ true → (a || b) ≡ true
or_left true b h = refl
or_left false b h = absurd (both_ways false refl h)

or_then : (a b c : Bool) → (b ≡ true → c ≡ true) → (a || b) ≡ true → (a || c) ≡ true
or_then true b c f h = refl
or_then false b c f h = f h

among_more : (x y : Name) (ns : List Name) → is_among x (with_name y ns) ≡ true → (bytes_eq x y ≡ true) ⊎ (is_among x ns ≡ true)
among_more x y [] h = or_cases (bytes_eq x y) false h
among_more x y (z ∷ ns) h = by (among_more x y ns) (bytes_eq y z) h
  where
    again : (is_among x (with_name y ns) ≡ true → (bytes_eq x y ≡ true) ⊎ (is_among x ns ≡ true)) → (a : Bool) → (a || is_among x (with_name y ns)) ≡ true → (bytes_eq x y ≡ true) ⊎ ((a || is_among x ns) ≡ true)
    again rest true h = inr refl
    again rest false h = rest h

    by : (is_among x (with_name y ns) ≡ true → (bytes_eq x y ≡ true) ⊎ (is_among x ns ≡ true)) → (t : Bool) → is_among x (if t then z ∷ ns else z ∷ with_name y ns) ≡ true → (bytes_eq x y ≡ true) ⊎ (is_among x (z ∷ ns) ≡ true)
    by rest true h = inr h
    by rest false h = again rest (bytes_eq x z) h

module _ (start : FreshNames) where
  -- a name of the source that is among the second is among the first
  abbrev pub Within : List Name → List Name → Type 0
  Within ns ms = (x : Name) → Source start x → is_among x ms ≡ true → is_among x ns ≡ true

  -- where it is among the first already
  within_seen : (y : Name) (ns ms : List Name) → is_among y ns ≡ true → Within ns ms → Within ns (with_name y ms)
  within_seen y ns ms own h x d e = by (among_more x y ms e)
    where
      by : (bytes_eq x y ≡ true) ⊎ (is_among x ms ≡ true) → is_among x ns ≡ true
      by (inl q) = subst (λ z. is_among z ns ≡ true) (sym (one_name x y q)) own
      by (inr q) = h x d q

  pub within_same : (y : Name) (ns ms : List Name) → Within ns ms → Within (with_name y ns) (with_name y ms)
  within_same y ns ms h = within_seen y (with_name y ns) ms (own_in y ns) (λ x d e. stays_in x y ns (h x d e))

  within_fresh : (y : Name) (ns ms : List Name) → Fresh start y → Within ns ms → Within ns (with_name y ms)
  within_fresh y ns ms f h x d e = by (among_more x y ms e)
    where
      by : (bytes_eq x y ≡ true) ⊎ (is_among x ms ≡ true) → is_among x ns ≡ true
      by (inl q) = absurd (d (subst (Fresh start) (sym (one_name x y q)) f))
      by (inr q) = h x d q

  pub within_params : (ps : List Param) (ns ms : List Name) → Within ns ms → Within (with_params ns ps) (with_params ms ps)
  within_params [] ns ms h = h
  within_params (p ∷ ps) ns ms h = within_params ps (with_name p.name ns) (with_name p.name ms) (within_same p.name ns ms h)

  -- ---- the variables of a scope are among the names

  abbrev pub SeenAmong : State → List Name → Type 0
  SeenAmong u ns = (x : Name) → is_some (type_seen u x) ≡ true → is_among x ns ≡ true

  seen_push : (u : State) (y : Name) (c : Cell) (ns : List Name) → is_among y ns ≡ true → SeenAmong u ns → SeenAmong (push y c u) ns
  seen_push u y c ns own h x e = by (bytes_eq x y) refl e
    where
      by : (t : Bool) → bytes_eq x y ≡ t → is_some (type_held (or_else (if t then Some c else find x u.frame) (find x u.globals))) ≡ true → is_among x ns ≡ true
      by true q e = subst (λ z. is_among z ns ≡ true) (sym (one_name x y q)) own
      by false q e = h x e

  pub seen_declared : (u : State) (y : Name) (c : Cell) (ns : List Name) → SeenAmong u ns → SeenAmong (push y c u) (with_name y ns)
  seen_declared u y c ns h = seen_push u y c (with_name y ns) (own_in y ns) (λ x e. stays_in x y ns (h x e))

  after_seen : (u : State) (a : Stmt) (ns : List Name) → SeenAmong u ns → SeenAmong (scope_after a u) (with_stmt ns (unplaced_stmt a))
  after_seen u (decl T x e) ns h = seen_declared u x (scalar T None) ns h
  after_seen u a ns h = λ x e. stmts_keep x ns (unplaced_stmts (more_stmts a no_stmts)) (h x e)

  begin_seen : (u : State) (i : MaybeStmt) (ns : List Name) → SeenAmong u ns → SeenAmong (scope_in i u) (with_part ns (unplaced_part i))
  begin_seen u no_stmt ns h = h
  begin_seen u (a_stmt a) ns h = after_seen u a ns h

  pub seen_params : (ps : List b.Param) (u : State) (ns : List Name) → SeenAmong u ns → SeenAmong (types.with_params ps u) (with_params ns (map unplaced_param ps))
  seen_params [] u ns h = h
  seen_params (p ∷ ps) u ns h = seen_params ps (push p.name (scalar p.ty None) u) (with_name p.name ns) (seen_declared u p.name (scalar p.ty None) ns h)

  -- ---- heads

  begin_within : (i : MaybeStmt) → MayBegin i → (ns ms : List Name) → Within ns ms → Within (with_part ns (unplaced_part i)) (with_part ms (unplaced_part i))
  begin_within no_stmt m ns ms h = h
  begin_within (a_stmt (decl T x (Some e))) m ns ms h = within_same x ns ms h
  begin_within (a_stmt (set t op e)) m ns ms h = h
  begin_within (a_stmt (step t up)) m ns ms h = h
  begin_within (a_stmt a) m ns ms h = absurd m

  begin_keeps : (x : Name) (ns : List Name) (i : MaybeStmt) → is_among x ns ≡ true → is_among x (with_part ns (unplaced_part i)) ≡ true
  begin_keeps x ns no_stmt h = h
  begin_keeps x ns (a_stmt a) h = stmts_keep x ns (unplaced_stmts (more_stmts a no_stmts)) h

  end_same : (i : MaybeStmt) → MayEnd i → (ns : List Name) → with_part ns (unplaced_part i) ≡ ns
  end_same no_stmt m ns = refl
  end_same (a_stmt (set t op e)) m ns = refl
  end_same (a_stmt (step t up)) m ns = refl
  end_same (a_stmt a) m ns = absurd m

  head_within : (i : MaybeStmt) (e : Option Expr) (next : MaybeStmt) → MayBegin i → MayEnd next → (ns ms : List Name) → Within ns ms → Within (with_head ns (unplaced_head (head i e next))) (with_head ms (unplaced_head (head i e next)))
  head_within i e next m n ns ms h =
      let ns' = with_part ns (unplaced_part i) in
      let ms' = with_part ms (unplaced_part i) in
      subst (λ z. Within z (with_part ms' (unplaced_part next))) (sym (end_same next n ns')) (subst (λ z. Within ns' z) (sym (end_same next n ms')) (begin_within i m ns ms h))

  -- a canonical loop's variable and type are those of the first part of its head
  module _ (P : Name → Option Ty → Type 0) where
    abbrev pub InitHas : Option Init → Type 0
    InitHas None = Unit {0}
    InitHas (Some i) = P i.var i.ty

    abbrev pub LoopHas : Option Canonical → Type 0
    LoopHas None = Unit {0}
    LoopHas (Some c) = P c.var c.ty

    step_has : (i : Init) (t : Test) (z : Option ℤ) → P i.var i.ty → LoopHas (with_step i t z)
    step_has i t None h = tt
    step_has i t (Some z) h = by (is_step_for t.op z)
      where
        by : (b : Bool) → LoopHas (if b then Some (record { var = i.var; ty = i.ty; lb = i.lb; ub = t.ub; test = t.op; step = z }) else None)
        by true = h
        by false = tt

    tested_has : (ds : List Define) (m : MaybeStmt) (i : Init) (t : Option Test) → P i.var i.ty → LoopHas (with_test ds m i t)
    tested_has ds m i None h = tt
    tested_has ds m i (Some t) h = step_has i t (increment ds i.var m) h

    begun_has : (ds : List Define) (e : Option Expr) (m : MaybeStmt) (i : Option Init) → InitHas i → LoopHas (with_init ds e m i)
    begun_has ds e m None h = tt
    begun_has ds e m (Some i) h = tested_has ds m i (test i.var e) h

    pub loop_has : (ds : List Define) (i : MaybeStmt) (e : Option Expr) (next : MaybeStmt) → InitHas (init i) → LoopHas (canonical ds (head i e next))
    loop_has ds i e next h = begun_has ds e next (init i) h

  -- where the head declares the variable, its name is among those of the head
  abbrev OwnIn : List Name → Name → Option Ty → Type 0
  OwnIn ns x ty = is_some ty ≡ true → is_among x ns ≡ true

  set_own : (ns : List Name) (x : Name) (o : SetOp) (e : Expr) → InitHas (OwnIn ns) (init (a_stmt (set (target x no_exprs) o e)))
  set_own ns x to.Plain e = λ h. absurd (both_ways false refl h)
  set_own ns x to.Add e = tt
  set_own ns x to.Sub e = tt
  set_own ns x to.Mul e = tt
  set_own ns x to.Div e = tt
  set_own ns x to.Rem e = tt

  begin_own : (i : MaybeStmt) → MayBegin i → (ns : List Name) → InitHas (OwnIn (with_part ns (unplaced_part i))) (init i)
  begin_own no_stmt m ns = tt
  begin_own (a_stmt (decl T x (Some e))) m ns = λ h. own_in x ns
  begin_own (a_stmt (set (target x no_exprs) o e)) m ns = set_own ns x o e
  begin_own (a_stmt (set (target x (more_exprs f fs)) o e)) m ns = tt
  begin_own (a_stmt (step t up)) m ns = tt
  begin_own (a_stmt a) m ns = absurd m

  -- ---- generated code. S gives the names after the source's statements, G what is known of those before them

  pub record GenWithin (G : List Name → Type 0) (S : List Name → List Name) (f : FreshNames) (g : Gen) : Type 0 where
    pub counter : Name
    pub end : Expr
    pub below : Parts
    pub parts : g.parts ≡ more_parts (Looped (gen_loop no_stmts counter (ll 0) end (Seq below))) no_parts
    pub counter_fresh : Fresh start counter
    pub front : (ns ks : List Name) (rest : Stmts) → ((ms : List Name) → Within ns ms → Within ks (with_stmts ms (unplaced_stmts rest))) → (ms : List Name) → Within ns ms → Within ks (with_stmts ms (unplaced_stmts (join g.front rest)))
    pub body : (ns ms : List Name) → G ns → Within ns ms → Within (S ns) (with_stmts ms (unplaced_stmts (parts_stmts below)))
    pub reached : Reached start f

  module _ (G : List Name → Type 0) (S : List Name → List Name) where
    leaf_within : (f : FreshNames) (h : SourceLoop) (a : Stmts) → Reached start f → ((ns ms : List Name) → G ns → Within ns ms → Within (S ns) (with_stmts (with_name h.var ms) (unplaced_stmts a))) → GenWithin G S (after_draws 4 f) (leaf (loop_names f) h a)
    leaf_within f h a r body =
        let fresh = λ (k : ℕ). drawn_fresh start (after_draws k f) (reached_more start k f r) in
        record {
          counter = drawn (after_draws 3 f);
          end = read (drawn (after_draws 2 f));
          below = more_parts (Plain (more_stmts (source_var (loop_names f) h) (only (block a)))) no_parts;
          parts = refl;
          counter_fresh = fresh 3;
          front = λ ns ks rest go ms w.
              let m1 = with_name (drawn f) ms in
              let m2 = with_name (drawn (after_draws 1 f)) m1 in
              let w1 = within_fresh (drawn f) ns ms (fresh 0) w in
              let w2 = within_fresh (drawn (after_draws 1 f)) ns m1 (fresh 1) w1 in
              go (with_name (drawn (after_draws 2 f)) m2) (within_fresh (drawn (after_draws 2 f)) ns m2 (fresh 2) w2);
          body = body;
          reached = reached_more start 4 f r;
        }

    reversed_within : (f : FreshNames) (g : Gen) → GenWithin G S f g → GenWithin G S (after_draw f) (reversed_gen (drawn f) g)
    reversed_within f g w = record {
      counter = drawn f;
      end = w.end;
      below = more_parts (Plain (only (let_stmt w.counter (bin Sub (bin Sub w.end (ll 1)) (read (drawn f)))))) w.below;
      parts = ap (on_first (reversed (drawn f))) w.parts;
      counter_fresh = drawn_fresh start f w.reached;
      front = w.front;
      body = λ ns ms known h. w.body ns (with_name w.counter ms) known (within_fresh w.counter ns ms w.counter_fresh h);
      reached = reached_more start 1 f w.reached;
    }

    record MadeWithin (m : Made Gen) : Type 0 where
      pub gen : GenWithin G S m.left m.tree

    reverse_within : (m : Made Gen) → MadeWithin m → MadeWithin (made_reverse m)
    reverse_within m w =
        let zero : begins_at_zero m.tree.parts ≡ true = ap begins_at_zero w.gen.parts in
        let same : GenWithin G S (after_from_zero m.left m.tree) (from_zero m.left m.tree) =
        subst (λ g. GenWithin G S (after_from_zero m.left m.tree) g) (sym (stays_from_zero m.left m.tree zero)) (subst (λ f. GenWithin G S f m.tree) (sym (draws_none m.left m.tree zero)) w.gen) in
        record { gen = reversed_within (after_from_zero m.left m.tree) (from_zero m.left m.tree) same }

    transformed_within : (t : Transformation) (m : Made Gen) → MadeWithin m → MadeWithin (transformed t m)
    transformed_within reverse_ m w = reverse_within m w
    transformed_within t m w = w

    mutual
      planned_within : (p : Plan) (m : Made Gen) → MadeWithin m → MadeWithin (planned p m)
      planned_within (plan t w) m h = applied_within w (transformed t m) (transformed_within t m h)

      applied_within : (w : Applied) (m : Made Gen) → MadeWithin m → MadeWithin (items_applied w m)
      applied_within none_applied m h = h
      applied_within (applied_at p d w) m h = applied_within w (planned d m) (planned_within d m h)

    emitted_within : (m : Made Gen) → MadeWithin m → (ns ms : List Name) → G ns → Within ns ms → Within (S ns) (with_stmts ms (unplaced_stmts (emit m.tree)))
    emitted_within m q ns ms known h =
        let w = q.gen in
        w.front ns (S ns) (parts_stmts m.tree.parts)
        (subst (λ ps. (ms : List Name) → Within ns ms → Within (S ns) (with_stmts ms (unplaced_stmts (parts_stmts ps)))) (sym w.parts) (λ ms h. w.body ns (with_name w.counter ms) known (within_fresh w.counter ns ms w.counter_fresh h)))
        ms h

  -- ---- statements

  module _ (ds : List Define) where
    record StmtWithin (u : State) (a : Stmt) (m : Made Stmt) : Type 0 where
      pub within : (ns ms : List Name) → SeenAmong u ns → Within ns ms → Within (with_stmt ns (unplaced_stmt a)) (with_stmt ms (unplaced_stmt m.tree))
      pub reached : Reached start m.left

    pub record StmtsWithin (u : State) (a : Stmts) (m : Made Stmts) : Type 0 where
      pub within : (ns ms : List Name) → SeenAmong u ns → Within ns ms → Within (with_stmts ns (unplaced_stmts a)) (with_stmts ms (unplaced_stmts m.tree))
      pub reached : Reached start m.left

    abbrev LoopWithin : State → Stmt → Made Gen → Type 0
    LoopWithin u a m = MadeWithin (SeenAmong u) (λ ns. with_stmt ns (unplaced_stmt a)) m

    -- the variable's name is among those of the head, or seen before it
    var_among : (u : State) (ns ks : List Name) (ty : Option Ty) (x : Name) (T : Ty) → variable_type u ty x ≡ Some T → OwnIn ks x ty → ((y : Name) → is_among y ns ≡ true → is_among y ks ≡ true) → SeenAmong u ns → is_among x ks ≡ true
    var_among u ns ks None x T e own more seen = more x (seen x (ap is_some e))
    var_among u ns ks (Some S) x T e own more seen = own refl

    loop_within : (u : State) (i : MaybeStmt) (e : Option Expr) (next : MaybeStmt) (a : Stmts) (m : Made Stmts) → MayBegin i → MayEnd next → StmtsWithin (scope_below u (loop_at ds u (head i e next))) a m → is_some (loop_at ds u (head i e next)) ≡ true →
        LoopWithin u (for_ (head i e next) a) (made_leaf (loop_at ds u (head i e next)) m)
    loop_within u i e next a m begin end body some = by (canonical ds (head i e next)) (λ ns. loop_has (OwnIn (with_part ns (unplaced_part i))) ds i e next (begin_own i begin ns)) body some
      where
        typed : (c : Canonical) → ((ns : List Name) → OwnIn (with_part ns (unplaced_part i)) c.var c.ty) → (o : Option Ty) → variable_type u c.ty c.var ≡ o → StmtsWithin (scope_below u (with_type c o)) a m → is_some (with_type c o) ≡ true → LoopWithin u (for_ (head i e next) a) (made_leaf (with_type c o) m)
        typed c own None t body some = absurd (both_ways false refl some)
        typed c own (Some T) t body some = record {
          gen = leaf_within (SeenAmong u) (λ ns. with_stmt ns (unplaced_stmt (for_ (head i e next) a))) m.left (source_loop c T) m.tree body.reached
              (λ ns ms seen h.
              let ks = with_part ns (unplaced_part i) in
              let more : (y : Name) → is_among y ns ≡ true → is_among y ks ≡ true = λ y q. begin_keeps y ns i q in
              let among = var_among u ns ks c.ty c.var T t (own ns) more seen in
              let known : SeenAmong (push c.var (scalar T None) u) ks = seen_push u c.var (scalar T None) ks among (λ y q. more y (seen y q)) in
              let names : Within ks (with_name c.var ms) = within_seen c.var ks ms among (λ y d q. more y (h y d q)) in
              subst (λ z. Within (with_stmts z (unplaced_stmts a)) (with_stmts (with_name c.var ms) (unplaced_stmts m.tree))) (sym (end_same next end ks)) (body.within ks (with_name c.var ms) known names));
        }

        by : (o : Option Canonical) → ((ns : List Name) → LoopHas (OwnIn (with_part ns (unplaced_part i))) o) → StmtsWithin (scope_below u (where_typed u o)) a m → is_some (where_typed u o) ≡ true → LoopWithin u (for_ (head i e next) a) (made_leaf (where_typed u o) m)
        by None own body some = absurd (both_ways false refl some)
        by (Some c) own body some = typed c own (variable_type u c.ty c.var) refl body some

    mutual
      stmt_within : (u : State) (a : Stmt) → is_reversible ds u a ≡ true → WellFormedStmt a → (f : FreshNames) → Reached start f → StmtWithin u a (carried ds u a f)
      stmt_within u (decl T x e) r w f q = record { within = λ ns ms k h. within_same x ns ms h; reached = q }
      stmt_within u (set a op e) r w f q = record { within = λ ns ms k h. h; reached = q }
      stmt_within u (step a up) r w f q = record { within = λ ns ms k h. h; reached = q }
      stmt_within u (print e) r w f q = record { within = λ ns ms k h. h; reached = q }
      stmt_within u (input a) r w f q = record { within = λ ns ms k h. h; reached = q }
      stmt_within u break_ r w f q = record { within = λ ns ms k h. h; reached = q }
      stmt_within u continue_ r w f q = record { within = λ ns ms k h. h; reached = q }
      stmt_within u empty r w f q = record { within = λ ns ms k h. h; reached = q }
      stmt_within u (call x es) r w f q = record { within = λ ns ms k h. h; reached = q }
      stmt_within u (if_ e a) r w f q = let b = stmts_within u a r w.1 f q in record { within = b.within; reached = b.reached }
      stmt_within u (if_else e a c) r w f q =
          let b = stmts_within u a (and_parts _ _ r).0 w.1 f q in
          let d = stmts_within u c (and_parts (are_reversible ds u a) _ r).1 w.2 (carried_all ds u a f).left b.reached in
          record { within = λ ns ms k h. d.within (with_stmts ns (unplaced_stmts a)) _ (λ x e. stmts_keep x ns (unplaced_stmts a) (k x e)) (b.within ns ms k h); reached = d.reached }
      stmt_within u (while_ e a) r w f q = let b = stmts_within u a r w.1 f q in record { within = b.within; reached = b.reached }
      stmt_within u (do_ a e) r w f q = let b = stmts_within u a r w.0 f q in record { within = b.within; reached = b.reached }
      stmt_within u (for_ (head i e next) a) r w f q =
          let b = stmts_within (in_head (head i e next) u) a r w.1 f q in
          record {
            within = λ ns ms k h. b.within (with_head ns (unplaced_head (head i e next))) (with_head ms (unplaced_head (head i e next)))
                (subst (SeenAmong (scope_in i u)) (sym (end_same next w.0.3 (with_part ns (unplaced_part i)))) (begin_seen u i ns k)) (head_within i e next w.0.0 w.0.3 ns ms h);
            reached = b.reached;
          }
      stmt_within u (block a) r w f q = let b = stmts_within u a r w f q in record { within = b.within; reached = b.reached }
      stmt_within u (omp p a) r w f q =
          let S = λ (ns : List Name). with_stmts ns (unplaced_stmts a) in
          let m = planned_within (SeenAmong u) S (plan_of ds p) (nest ds u a f) (nest_within u a (and_parts (is_reversal (plan_of ds p)) _ r).1 w.1 f q) in
          record { within = emitted_within (SeenAmong u) S (planned (plan_of ds p) (nest ds u a f)) m; reached = m.gen.reached }

      pub stmts_within : (u : State) (a : Stmts) → are_reversible ds u a ≡ true → WellFormedStmts a → (f : FreshNames) → Reached start f → StmtsWithin u a (carried_all ds u a f)
      stmts_within u no_stmts r w f q = record { within = λ ns ms k h. h; reached = q }
      stmts_within u (more_stmts a as') r w f q =
          let b = stmt_within u a (and_parts _ _ r).0 w.0 f q in
          let c = stmts_within (scope_after a u) as' (and_parts (is_reversible ds u a) _ r).1 w.1 (carried ds u a f).left b.reached in
          record { within = λ ns ms k h. c.within (with_stmt ns (unplaced_stmt a)) _ (after_seen u a ns k) (b.within ns ms k h); reached = c.reached }

      nest_within : (u : State) (a : Stmts) → is_nest ds u a ≡ true → WellFormedStmts a → (f : FreshNames) → Reached start f → MadeWithin (SeenAmong u) (λ ns. with_stmts ns (unplaced_stmts a)) (nest ds u a f)
      nest_within u no_stmts r w f q = absurd (both_ways false refl r)
      nest_within u (more_stmts a no_stmts) r w f q = nest_in_within u a r w.0 f q
      nest_within u (more_stmts a (more_stmts b as')) r w f q = absurd (both_ways false refl r)

      nest_in_within : (u : State) (a : Stmt) → is_nest_in ds u a ≡ true → WellFormedStmt a → (f : FreshNames) → Reached start f → MadeWithin (SeenAmong u) (λ ns. with_stmt ns (unplaced_stmt a)) (nest_in ds u a f)
      nest_in_within u (for_ (head i e next) a) r w f q =
          let below = scope_below u (loop_at ds u (head i e next)) in
          let rest = (and_parts (is_some (loop_at ds u (head i e next))) _ r).1 in
          loop_within u i e next a (carried_all ds below a f) w.0.0 w.0.3 (stmts_within below a (and_parts (all_stay_in a) _ rest).1 w.1 f q) (and_parts _ _ r).0
      nest_in_within u (block a) r w f q = nest_within u a r w f q
      nest_in_within u (omp p a) r w f q =
          planned_within (SeenAmong u) (λ ns. with_stmts ns (unplaced_stmts a)) (plan_of ds p) (nest ds u a f) (nest_within u a (and_parts (is_reversal (plan_of ds p)) _ r).1 w.1 f q)
      nest_in_within u a r w f q = absurd (both_ways false refl r)
