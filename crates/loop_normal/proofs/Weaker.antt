-- What is denoted in a frame is denoted in each frame that agrees with it; a declaration below a loop.
use Rattle.std.proofs.Common.{◌≡◌, refl, sym, ap, ◌∙◌, subst, ℕ, zero, suc, ◌+◌, ◌-◌, List, [], ◌∷◌, ◌++◌, length, drop, Some, arith}
use Rattle.std.proofs.lemmas.List.{length-append, length-drop}
use Rattle.c_tree.specs.Bare.{Name, decl, Stmts, no_stmts, more_stmts, Expr}
use Rattle.c_tree.specs.declared.tree.Ty.TheVariants.{Long}
use Rattle.c_semantics.specs.Meaning.State.{Var, keep, with_frame}
use Rattle.c_semantics.specs.Loops.IterationTrees.{Tree}
use Rattle.c_semantics.specs.Meaning.Runs.{Run, leave, then_do, with_end, turn_end}
use Rattle.c_semantics.specs.Meaning.SimpleStatements.{Env}
use Rattle.c_semantics.specs.Loops.Execution.{Body, run_tree}
use Rattle.c_semantics.specs.Meaning.Statements.{exec_all}
use Rattle.loop_normal.specs.Gens.{GenLoop, gen_loop, Inner, Nest, Seq, let_stmt, parts_stmts}
use Rattle.loop_normal.specs.Templates.{put_let}
use Rattle.loop_normal.specs.Frames.{above, long, Agrees, AgreesBut}
use Rattle.loop_normal.specs.Denotes.{Calm, Value, LetsRun, Turns, LoopMeans, InnerMeans}
use Rattle.loop_normal.proofs.TreeFrames.{tree_exact}
use Rattle.loop_normal.proofs.FreshFrames.{agrees_then, agrees_push, agrees_but_then, value_in}
use Rattle.loop_normal.proofs.Loops.{declare}

drop_next : {A : Type 0} (i : ℕ) (l : List A) (a : A) (m : List A) → drop i l ≡ a ∷ m → drop (suc i) l ≡ m
drop_next zero [] a m h = ap (drop 1) h
drop_next zero (b ∷ l) a m h = ap (drop 1) h
drop_next (suc i) [] a m h = ap (drop 1) h
drop_next (suc i) (b ∷ l) a m h = drop_next i l a m h

-- without the innermost of what is kept
keep_less : {A : Type 0} (k : ℕ) (l : List A) (a : A) (m : List A) → length m ≡ k → keep (suc k) l ≡ a ∷ m → keep k l ≡ m
keep_less k l a m e h =
    let long : length l - (length l - suc k) ≡ suc k = sym (length-drop (length l - suc k) l) ∙ ap length h ∙ ap suc e in
    let one : length l - k ≡ suc (length l - suc k) = omega (arith, long) in
    ap (λ i. drop i l) one ∙ drop_next (length l - suc k) l a m h

module _ (n : ℕ) (env : Env) (bs : List Body) (Out : Name → Type 0) where
  pub lets_more : (ls : Stmts) (p q p' : List Var) → LetsRun n env bs Out ls p q → Agrees p p' → (q' : List Var) × LetsRun n env bs Out ls p' q' × Agrees q q'
  lets_more no_stmts p q p' h a = (p', refl, subst (λ x. Agrees x p') (sym h) a)
  lets_more (more_stmts (decl Long x (Some d)) ls) p q p' h a =
      let v = long x h.1 in
      let r = lets_more ls (v ∷ p) q (v ∷ p') h.3 (agrees_push v p p' a) in
      (r.0, (h.0, h.1, value_in env.defines (AgreesBut x p) (AgreesBut x p') d h.1 (λ f. agrees_but_then x p p' f a) h.2, r.1), r.2)
  lets_more (more_stmts _ ls) p q p' h a = absurd h

  mutual
    pub loop_more : (l : GenLoop) (p q : List Var) (t : Tree) → Agrees p q → LoopMeans n env bs Out l p t → LoopMeans n env bs Out l q t
    loop_more (gen_loop ls c a b inner) p q t g h =
        let r = lets_more ls p h.frame q h.lets g in
        let fewer = λ (f : List Var). agrees_but_then c h.frame r.0 f r.2 in
        record {
          frame = r.0;
          lets = r.1;
          first = h.first;
          width = h.width;
          begins = value_in env.defines (AgreesBut c h.frame) (AgreesBut c r.0) a h.first fewer h.begins;
          stops = value_in env.defines (AgreesBut c h.frame) (AgreesBut c r.0) b (h.first + h.width) fewer h.stops;
          foreign = h.foreign;
          child = h.child;
          shape = h.shape;
          below = λ i l. inner_more inner (long c (h.first + i) ∷ h.frame) (long c (h.first + i) ∷ r.0) (h.child i) (agrees_push (long c (h.first + i)) h.frame r.0 r.2) (h.below i l);
        }

    pub inner_more : (i : Inner) (p q : List Var) (t : Tree) → Agrees p q → InnerMeans n env bs Out i p t → InnerMeans n env bs Out i q t
    inner_more (Nest l) p q t g h = loop_more l p q t g h
    inner_more (Seq ps) p q t g h = λ f s a b. h f s (agrees_then p q f g a) b

  module _ (calm : Calm bs) where
    -- a declaration before a list
    pub declare_turns : (p : List Var) (x : Name) (e : Expr) (k : ℕ) (as' : Stmts) (t : Tree) → Out x → Value env.defines (AgreesBut x p) e k → Turns n env bs Out (long x k ∷ p) as' t → Turns n env bs Out p (more_stmts (decl Long x (Some e)) as') t
    declare_turns p x e k as' t foreign v h f s a b =
        let w = long x k in
        let r = exec_all n env as' (above (w ∷ f) s) in
        let u = run_tree n bs t s in
        let d = h (w ∷ f) s (agrees_push w p f a) (foreign, b) in
        let same : length (f ++ u.state.frame) ≡ length (f ++ s.frame) = length-append f u.state.frame ∙ ap (λ k. length f + k) (tree_exact n bs calm.grow t s) ∙ sym (length-append f s.frame) in
        let kept = keep_less (length (f ++ s.frame)) r.state.frame w (f ++ u.state.frame) same (ap (λ x. x.state.frame) d) in
        ap (λ x. with_end turn_end (leave (above f s) (then_do x (exec_all n env as')))) (declare n env bs Out calm p x e k v f s a)
        ∙ ap {B = Run} (λ l. record { state = with_frame l r.state; end = turn_end r.end }) kept
        ∙ ap {B = Run} (λ x. record { state = with_frame (f ++ u.state.frame) x.state; end = x.end }) d

    pub put_let_means : (i : Inner) (x : Name) (e : Expr) (p : List Var) (k : ℕ) (t : Tree) → Out x → Value env.defines (AgreesBut x p) e k → InnerMeans n env bs Out i (long x k ∷ p) t → InnerMeans n env bs Out (put_let (let_stmt x e) i) p t
    put_let_means (Nest (gen_loop ls c a b inner)) x e p k t foreign v h =
        record {
          frame = h.frame;
          lets = (foreign, k, v, h.lets);
          first = h.first;
          width = h.width;
          begins = h.begins;
          stops = h.stops;
          foreign = h.foreign;
          child = h.child;
          shape = h.shape;
          below = h.below;
        }
    put_let_means (Seq ps) x e p k t foreign v h = declare_turns p x e k (parts_stmts ps) t foreign v h
