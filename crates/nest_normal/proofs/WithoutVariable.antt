-- What doesn't spell a fresh variable denotes the same in a frame without it.
use Rattle.std.proofs.Common.{◌≡◌, refl, sym, ap, ◌∙◌, subst, ℕ, ◌+◌, List, [], ◌∷◌, ◌++◌, length, Option, Some, None, Bool, true, false, ◌||◌, arith}
use Rattle.std.specs.Prelude.{bytes_eq, if◌then◌else◌}
use Rattle.std.proofs.lemmas.List.{length-append}
use Rattle.std.proofs.lemmas.Slice.Eq.{bytes_eq-Decides}
use Rattle.c_tree.specs.Bare.{Name, Expr, decl, block, Stmts, no_stmts, more_stmts}
use Rattle.c_tree.specs.declared.tree.Ty.TheVariants.{Long}
use Rattle.c_semantics.specs.Meaning.State.{Cell, Var, State, find, look, or_else, with_frame}
use Rattle.c_semantics.specs.Meaning.Expressions.{Define}
use Rattle.c_semantics.specs.Meaning.Runs.{Run, turn_of, turn_end}
use Rattle.c_semantics.specs.Meaning.SimpleStatements.{Env, function_named}
use Rattle.c_semantics.specs.Meaning.Statements.{exec_all}
use Rattle.c_semantics.specs.Loops.IterationTrees.{Tree}
use Rattle.c_semantics.specs.Loops.Execution.{Body, run_tree}
use Rattle.c_semantics.specs.Laws.Apart.{Differ, Beside, here, there, BesideInFrame, RunsAlike}
use Rattle.c_semantics.specs.Laws.Names.{UsesAll}
use Rattle.c_semantics.proofs.Apart.{beside_local, called_local, one_longer, not_shorter}
use Rattle.c_semantics.proofs.Evals.{type_same, eval_same}
use Rattle.c_semantics.proofs.Simulation.{exec_alike}
use Rattle.c_semantics.proofs.Touches.{uses-touches}
use Rattle.loop_normal.specs.Frames.{above, run_above, long, Agrees, AgreesBut, Foreign}
use Rattle.loop_normal.specs.Gens.{GenLoop, gen_loop, Inner, Nest, Seq, parts_stmts}
use Rattle.loop_normal.specs.Denotes.{Calm, Value, LetsRun, Turns, LoopMeans, InnerMeans}
use Rattle.loop_normal.proofs.TreeFrames.{tree_exact}
use Rattle.loop_normal.proofs.FreshFrames.{same_name, not_none}
use Rattle.nest_normal.specs.Spelled.{in_expr, in_stmts, in_loop, in_inner}
use Rattle.nest_normal.specs.NestDenotes.{IsSteady, SteadyBelow}
use Rattle.nest_normal.proofs.SpelledNames.{neither, expr_others, loop_others, parts_uses}

-- ---- frames

abbrev rest : List Var → List Var
rest [] = []
rest (v ∷ l) = l

-- a variable above all that is kept is the top
top_beside : (v : Var) (k : ℕ) (l m : List Var) → Beside v k l m → (b : List Var) → m ≡ v ∷ b → length b ≡ k → l ≡ b
top_beside v k l m (here a e) b same long_ = ap rest same
top_beside v k l m (there w {l = l'} {m = m'} p) b same long_ =
    let one = one_longer v k l' m' p in
    let low = not_shorter v k l' m' p in
    let under : length m' ≡ length b = ap (λ q. length (rest q)) same in
    absurd (omega (arith, one, low, under, long_))

-- the variable put back on top, where the frame had one
abbrev put_back : Name → Option Cell → List Var → List Var
put_back x None f = f
put_back x (Some c) f = record { name = x; cell = c } ∷ f

-- what a frame has is found where the variable is put back, if all else is
back_found : (x : Name) (q f : List Var) (y : Name) (d : Cell) → find y q ≡ Some d → (Differ y x → find y f ≡ Some d) → find y (put_back x (find x q) f) ≡ Some d
back_found x q f y d e others = by (bytes_eq y x) refl
  where
    top : (o : Option Cell) → o ≡ Some d → find x (put_back x o f) ≡ Some d
    top None u = absurd (not_none d u)
    top (Some c) u = ap (λ t. if t then Some c else find x f) (same_name x) ∙ u

    under : (o : Option Cell) → Differ y x → find y f ≡ Some d → find y (put_back x o f) ≡ Some d
    under None n u = u
    under (Some c) n u = ap (λ t. if t then Some c else find y f) n ∙ u

    by : (t : Bool) → bytes_eq y x ≡ t → find y (put_back x (find x q) f) ≡ Some d
    by true t = let same = (bytes_eq-Decides y x).0 t in subst (λ w. find w (put_back x (find x q) f) ≡ Some d) (sym same) (top (find x q) (subst (λ w. find w q ≡ Some d) same e))
    by false t = under (find x q) t (others t)

agrees_back : (x : Name) (q q' f : List Var) → AgreesBut x q q' → Agrees q' f → Agrees q (put_back x (find x q) f)
agrees_back x q q' f a b y d e = back_found x q f y d e (λ t. b y d (a y d t e))

agrees_but_back : (x z : Name) (q q' f : List Var) → AgreesBut x q q' → AgreesBut z q' f → AgreesBut z q (put_back x (find x q) f)
agrees_but_back x z q q' f a b y d o e = back_found x q f y d e (λ t. b y d o (a y d t e))

but_push : (x : Name) (v : Var) (p q : List Var) → AgreesBut x p q → AgreesBut x (v ∷ p) (v ∷ q)
but_push x v p q h y c o = by (bytes_eq y v.name)
  where
    by : (t : Bool) → (if t then Some v.cell else find y p) ≡ Some c → (if t then Some v.cell else find y q) ≡ Some c
    by true e = e
    by false e = h y c o e

-- the dropped variable itself
pub but_dropped : (x : Name) (k : ℕ) (p : List Var) → AgreesBut x (long x k ∷ p) p
but_dropped x k p y c o e = sym (ap (λ t. if t then Some (long x k).cell else find y p) o) ∙ e

foreign_back : (Out : Name → Type 0) (x : Name) (o : Option Cell) (f : List Var) → Out x → Foreign Out f → Foreign Out (put_back x o f)
foreign_back Out x None f own h = h
foreign_back Out x (Some c) f own h = (own, h)

-- ---- values

look_back : (x : Name) (o : Option Cell) (f : List Var) (s : State) (y : Name) → Differ y x → look (above (put_back x o f) s) y ≡ look (above f s) y
look_back x None f s y d = refl
look_back x (Some c) f s y d = ap (λ t. or_else (if t then Some c else find y (f ++ s.frame)) (find y s.globals)) d

value_without : (ds : List Define) (x z : Name) (q q' : List Var) (e : Expr) (k : ℕ) → AgreesBut x q q' → in_expr x e ≡ false → Value ds (AgreesBut z q) e k → Value ds (AgreesBut z q') e k
value_without ds x z q q' e k a n v = (
  v.0,
  λ f s b.
      let o = find x q in
      let looks = look_back x o f s in
      let names = expr_others x e n in
      let w = v.1 (put_back x o f) s (agrees_but_back x z q q' f a b) in
      (sym (eval_same ds (λ y. Differ y x) (above f s) (above (put_back x o f) s) looks e names) ∙ w.0, sym (type_same ds (λ y. Differ y x) (above f s) (above (put_back x o f) s) looks e names) ∙ w.1),
)

module _ (n : ℕ) (env : Env) (bs : List Body) (Out : Name → Type 0) (x : Name) where
  lets_without : (ls : Stmts) (p q p' : List Var) → in_stmts x ls ≡ false → AgreesBut x p p' → LetsRun n env bs Out ls p q → (q' : List Var) × LetsRun n env bs Out ls p' q' × AgreesBut x q q'
  lets_without no_stmts p q p' e a h = (p', refl, subst (λ l. AgreesBut x l p') (sym h) a)
  lets_without (more_stmts (decl Long y (Some d)) ls) p q p' e a h =
      let o = neither (bytes_eq y x || in_expr x d) (in_stmts x ls) e in
      let u = neither (bytes_eq y x) (in_expr x d) o.0 in
      let v = long y h.1 in
      let r = lets_without ls (v ∷ p) q (v ∷ p') o.1 (but_push x v p p' a) h.3 in
      (r.0, (h.0, h.1, value_without env.defines x y p p' d h.1 a u.1 h.2, r.1), r.2)
  lets_without (more_stmts _ ls) p q p' e a h = absurd h

  -- ---- steadiness

  mutual
    pub steady_without : (l : GenLoop) (p p' : List Var) → in_loop x l ≡ false → AgreesBut x p p' → IsSteady n env bs Out l p → IsSteady n env bs Out l p'
    steady_without (gen_loop ls c a b inner) p p' e g h =
        let o = loop_others x ls c a b inner e in
        let r = lets_without ls p h.0 p' o.lets g h.1 in
        (r.0, r.1, h.2, h.3, value_without env.defines x c h.0 r.0 a h.2 r.2 o.from h.4, value_without env.defines x c h.0 r.0 b (h.2 + h.3) r.2 o.to h.5, steady_below_without inner h.0 r.0 o.below r.2 h.6)

    steady_below_without : (i : Inner) (p p' : List Var) → in_inner x i ≡ false → AgreesBut x p p' → SteadyBelow n env bs Out i p → SteadyBelow n env bs Out i p'
    steady_below_without (Nest l) p p' e g h = steady_without l p p' e g h
    steady_below_without (Seq ps) p p' e g h = tt

  -- ---- what is done

  module _ (calm : Calm bs) (own : Out x) where
    -- statements that don't name the top variable
    top_gone : (as' : Stmts) → UsesAll (λ y. Differ y x) (λ y. Differ y x) as' → (c : Cell) (t : Tree) (f : List Var) (s : State) →
        turn_of (exec_all n env as') (above (record { name = x; cell = c } ∷ f) s) ≡ run_above (record { name = x; cell = c } ∷ f) (run_tree n bs t s) →
        turn_of (exec_all n env as') (above f s) ≡ run_above f (run_tree n bs t s)
    top_gone as' uses c t f s d =
        let v : Var = record { name = x; cell = c } in
        let k = length (f ++ s.frame) in
        let r = turn_of (exec_all n env as') (above f s) in
        let u = run_tree n bs t s in
        let kept = f ++ u.state.frame in
        let touches = uses-touches (λ y. Differ y x) env.defines _ _ (λ y. Differ y x) (λ h y o. o) (λ g o. called_local v k (function_named g env.functions)) [] (block as') uses in
        let gone = exec_alike (λ h. BesideInFrame v k) (λ h y. Differ y x) (beside_local v k) n env [] (block as') touches (above f s) (above (v ∷ f) s) (v ∷ f ++ s.frame, here (f ++ s.frame) refl, refl) in
        let alike : RunsAlike (BesideInFrame v k) r (turn_of (exec_all n env as') (above (v ∷ f) s)) = (gone.0, ap turn_end gone.1) in
        let same : length kept ≡ k = length-append f u.state.frame ∙ ap (λ i. length f + i) (tree_exact n bs calm.grow t s) ∙ sym (length-append f s.frame) in
        let other = sym alike.0.2 ∙ ap (λ w. w.state) d in
        let frame = top_beside v k r.state.frame alike.0.0 alike.0.1 kept (ap (λ w. w.frame) other) same in
        let state : r.state ≡ above f u.state = ap (λ l. with_frame l r.state) frame ∙ ap (λ w. with_frame kept w) other in
        ap {B = Run} (λ w. record { state = w; end = r.end }) state ∙ ap {B = Run} (λ e. record { state = above f u.state; end = e }) (sym alike.1 ∙ ap (λ w. w.end) d)

    turns_without : (as' : Stmts) (p p' : List Var) (t : Tree) → UsesAll (λ y. Differ y x) (λ y. Differ y x) as' → AgreesBut x p p' → Turns n env bs Out p as' t → Turns n env bs Out p' as' t
    turns_without as' p p' t uses g h f s a b = by (find x p) (h (put_back x (find x p) f) s (agrees_back x p p' f g a) (foreign_back Out x (find x p) f own b))
      where
        by : (o : Option Cell) → turn_of (exec_all n env as') (above (put_back x o f) s) ≡ run_above (put_back x o f) (run_tree n bs t s) → turn_of (exec_all n env as') (above f s) ≡ run_above f (run_tree n bs t s)
        by None d = d
        by (Some c) d = top_gone as' uses c t f s d

    mutual
      pub loop_without : (l : GenLoop) (p p' : List Var) (t : Tree) → in_loop x l ≡ false → AgreesBut x p p' → LoopMeans n env bs Out l p t → LoopMeans n env bs Out l p' t
      loop_without (gen_loop ls c a b inner) p p' t e g h =
          let o = loop_others x ls c a b inner e in
          let r = lets_without ls p h.frame p' o.lets g h.lets in
          record {
            frame = r.0;
            lets = r.1;
            first = h.first;
            width = h.width;
            begins = value_without env.defines x c h.frame r.0 a h.first r.2 o.from h.begins;
            stops = value_without env.defines x c h.frame r.0 b (h.first + h.width) r.2 o.to h.stops;
            foreign = h.foreign;
            child = h.child;
            shape = h.shape;
            below = λ i l. let v = long c (h.first + i) in inner_without inner (v ∷ h.frame) (v ∷ r.0) (h.child i) o.below (but_push x v h.frame r.0 r.2) (h.below i l);
          }

      inner_without : (i : Inner) (p p' : List Var) (t : Tree) → in_inner x i ≡ false → AgreesBut x p p' → InnerMeans n env bs Out i p t → InnerMeans n env bs Out i p' t
      inner_without (Nest l) p p' t e g h = loop_without l p p' t e g h
      inner_without (Seq ps) p p' t e g h = turns_without (parts_stmts ps) p p' t (parts_uses x ps e) g h
