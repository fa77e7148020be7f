-- A generated loop as statements does what the tree does that it denotes.
use Rattle.std.proofs.Common.{◌≡◌, refl, sym, ap, ◌∙◌, subst, ℕ, zero, suc, ◌+◌, ◌^◌, ◌<◌, List, [], ◌∷◌, ◌++◌, length, Option, Some, None, Result, Ok, Bool, true, false, not, ℤ, slice_get, arith, append_assoc}
use Rattle.std.specs.Prelude.{nat_lt}
use Rattle.std.proofs.lemmas.List.{length-append}
use Rattle.c_tree.specs.Bare.{Name, Expr, decl, no_stmts, more_stmts, read, bin, no_exprs, target, Stmts}
use Rattle.c_tree.specs.declared.tree.Ty.TheVariants.{Long}
use Rattle.c_tree.specs.declared.tree.BinOp.TheVariants.{Lt}
use Rattle.c_semantics.specs.Meaning.State.{scalar, Var, State, count_turn, with_frame}
use Rattle.c_tree.specs.declared.arithmetic.Trap.{Trap}
use Rattle.c_tree.specs.Arithmetic.{truth, is_zero}
use Rattle.c_semantics.specs.Loops.IterationTrees.{Tree, body, do_all, loop, Trees, of_list, members, loop_of, no_trees, more_trees}
use Rattle.c_semantics.specs.Meaning.Runs.{End, Next, Break, Continue, Trapped, Cut, Run, Meaning, ends, on_next, then_do, leave, with_end, turn_end, loop_end, for_turn, while_loop}
use Rattle.c_semantics.specs.Meaning.SimpleStatements.{Env, holds_in, step_by, declared}
use Rattle.c_semantics.specs.Loops.Execution.{Body, run_body, run_tree, run_all, run_turns}
use Rattle.c_semantics.specs.Meaning.Statements.{exec, exec_all}
use Rattle.loop_normal.specs.Gens.{join, counter_loop}
use Rattle.loop_normal.specs.Frames.{above, run_above, long, Agrees, AgreesBut, Foreign}
use Rattle.loop_normal.specs.Denotes.{Calm, Value, LetsRun, Turns}
use Rattle.loop_normal.proofs.Counted.{AllTurn, counted, bump}
use Rattle.loop_normal.proofs.TreeFrames.{tree_exact}
use Rattle.loop_normal.proofs.FreshFrames.{same_name, agrees_push, agrees_but_top, look_found, keep_append, converts, ranged, found_top}

-- ---- ends of trees

abbrev pub Settled : End → Type 0
Settled e = (turn_end e ≡ e) × (loop_end e ≡ e)

turn_twice : (e : End) → turn_end (turn_end e) ≡ turn_end e
turn_twice Next = refl
turn_twice Break = refl
turn_twice Continue = refl
turn_twice (Trapped t) = refl
turn_twice Cut = refl

on_next_settled : (e : End) (u : State) (f : Meaning) → Settled e → ((s : State) → Settled (f s).end) → Settled (on_next e u f).end
on_next_settled Next u f h k = k u
on_next_settled Break u f h k = h
on_next_settled Continue u f h k = h
on_next_settled (Trapped t) u f h k = h
on_next_settled Cut u f h k = h

module _ (n : ℕ) (bs : List Body) (calm : Calm bs) where
  body_settled : (b : ℕ) (zs : List ℤ) (s : State) → Settled (run_body (slice_get bs b) zs s).end
  body_settled b zs s = (by (slice_get bs b), calm.stays b zs s)
    where
      by : (o : Option Body) → turn_end (run_body o zs s).end ≡ (run_body o zs s).end
      by None = refl
      by (Some b) = turn_twice _

  mutual
    pub tree_settled : (t : Tree) (s : State) → Settled (run_tree n bs t s).end
    tree_settled (body b zs) s = body_settled b zs s
    tree_settled (do_all ts) s = all_settled ts s
    tree_settled (loop ts) s = turns_settled ts n s

    pub all_settled : (ts : Trees) (s : State) → Settled (run_all n bs ts s).end
    all_settled no_trees s = (refl, refl)
    all_settled (more_trees t ts) s = let r = run_tree n bs t s in on_next_settled r.end r.state (run_all n bs ts) (tree_settled t s) (all_settled ts)

    pub turns_settled : (ts : Trees) (k : ℕ) (s : State) → Settled (run_turns n bs ts k s).end
    turns_settled no_trees k s = (refl, refl)
    turns_settled (more_trees t ts) zero s = (refl, refl)
    turns_settled (more_trees t ts) (suc k) s = let r = run_tree n bs t (count_turn s) in on_next_settled r.end r.state (λ u. run_turns n bs ts k u) (tree_settled t (count_turn s)) (turns_settled ts k)

-- ---- the counter

of_truth : (b : Bool) → not (is_zero (truth b)) ≡ b
of_truth true = refl
of_truth false = refl

module _ (n : ℕ) (env : Env) (bs : List Body) (Out : Name → Type 0) (calm : Calm bs) where
  pub declare : (p : List Var) (x : Name) (e : Expr) (k : ℕ) → Value env.defines (AgreesBut x p) e k → (f : List Var) (s : State) → Agrees p f → declared env.defines Long x (Some e) (above f s) ≡ ends Next (above (long x k ∷ f) s)
  declare p x e k v f s a =
      let w : Var = record { name = x; cell = scalar Long None } in
      rw ((v.1 (w ∷ f) s (agrees_but_top w p f a)).0, converts k v.0) refl

  -- what declarations have added
  pub run_lets : (ls : Stmts) (p q : List Var) → LetsRun n env bs Out ls p q → (f : List Var) → Agrees p f → Foreign Out f →
      (g : List Var) × Agrees q (g ++ f) × Foreign Out (g ++ f) × ((as' : Stmts) (s : State) → exec_all n env (join ls as') (above f s) ≡ exec_all n env as' (above (g ++ f) s))
  run_lets no_stmts p q e f a h = ([], subst (λ x. Agrees x f) (sym e) a, h, λ as' s. refl)
  run_lets (more_stmts (decl Long x (Some d)) ls) p q h f a b =
      let v = long x h.1 in
      let r = run_lets ls (v ∷ p) q h.3 (v ∷ f) (agrees_push v p f a) (h.0, b) in
      let e = append_assoc r.0 (v ∷ []) f in (
        r.0 ++ v ∷ [],
        subst (Agrees q) (sym e) r.1,
        subst (Foreign Out) (sym e) r.2,
        λ as' s. ap (λ x. then_do x (exec_all n env (join ls as'))) (declare p x d h.1 h.2 f s a) ∙ r.3 as' s ∙ ap (λ x. exec_all n env as' (above x s)) (sym e),
      )
  run_lets (more_stmts _ ls) p q h f a b = absurd h

  -- the counter's step
  pub steps : (c : Name) (i : ℕ) (f : List Var) (s : State) → suc i < 2 ^ 63 → step_by env.defines (target c no_exprs) true (above (long c i ∷ f) s) ≡ ends Next (above (long c (suc i) ∷ f) s)
  steps c i f s h =
      let e : i + 1 ≡ suc i = omega arith in
      rw (same_name c, e, ranged (suc i) h, converts (suc i) h, same_name c) refl

  -- a loop from a to b, where the counter doesn't hide what b reads
  module _ (q : List Var) (c : Name) (a b : Expr) (as' : Stmts) (first width : ℕ) (begins : Value env.defines (AgreesBut c q) a first) (stops : Value env.defines (AgreesBut c q) b (first + width)) (foreign : Out c) where
    abbrev N : ℕ
    N = first + width

    module _ (f : List Var) (fits : Agrees q f) (free : Foreign Out f) where
      abbrev at : ℕ → State → State
      at i s = above (long c i ∷ f) s

      abbrev Good : State → Type 0
      Good s = Unit {0}

      abbrev turn : Meaning
      turn = for_turn (exec_all n env as') (step_by env.defines (target c no_exprs) true)

      abbrev test : State → Result Bool Trap
      test = holds_in env.defines (bin Lt (read c) b)

      tests : (i : ℕ) (s : State) → Good s → test (at i s) ≡ Ok (nat_lt i N)
      tests i s h =
          let l = look_found (long c i ∷ f) s c _ (found_top c i f) in
          let w = stops.1 (long c i ∷ f) s (agrees_but_top (long c i) q f fits) in
          rw (l, w.0) (ap {B = Result Bool Trap} Ok (of_truth (nat_lt i N)))

      after_body : (i : ℕ) → suc i < 2 ^ 63 → (e : End) (u : State) → on_next e (at i u) (step_by env.defines (target c no_exprs) true) ≡ record { state = at (bump N n bs at Good test turn e i) u; end = e }
      after_body i l Next u = steps c i f u l
      after_body i l Break u = refl
      after_body i l Continue u = refl
      after_body i l (Trapped x) u = refl
      after_body i l Cut u = refl

      -- each turn from the i-th on does what its tree does
      all_turn : (w i : ℕ) (child : ℕ → Tree) → i + w ≡ N → ((j : ℕ) → j < w → Turns n env bs Out (long c (i + j) ∷ q) as' (child j)) → AllTurn N n bs at Good test turn i (of_list (members w child))
      all_turn zero i child e h = omega (arith, e)
      all_turn (suc w) i child e h =
          let zeroth : i + 0 ≡ i = omega arith in (
            omega (arith, e),
            λ s g.
                let t = h 0 (omega arith) in
                let r = run_tree n bs (child 0) (count_turn s) in
                let d = t (long c i ∷ f) (count_turn s) (subst (λ k. Agrees (long c k ∷ q) (long c i ∷ f)) (sym zeroth) (agrees_push (long c i) q f fits)) (foreign, free) in
                (ap (λ x. then_do x (step_by env.defines (target c no_exprs) true)) d ∙ after_body i (omega (arith, e, stops.0)) r.end r.state, tt),
            all_turn w (suc i) (λ j. child (suc j)) (omega (arith, e)) (λ j l.
                let same : i + suc j ≡ suc i + j = omega arith in
                subst (λ k. Turns n env bs Out (long c k ∷ q) as' (child (suc j))) same (h (suc j) (omega (arith, l)))),
          )

      pub loop_runs : (child : ℕ → Tree) → ((j : ℕ) → j < width → Turns n env bs Out (long c (first + j) ∷ q) as' (child j)) → (s : State) →
          exec n env (counter_loop c a b as') (above f s) ≡ run_above f (run_tree n bs (loop_of (members width child)) s)
      loop_runs child h s =
          let ts = of_list (members width child) in
          let r = run_turns n bs ts n s in
          let p = counted N n bs at Good test turn tests ts n first (all_turn width first child refl h) s tt in
          let q1 = ap (λ x. leave (above f s) (then_do x (while_loop n test turn))) (declare q c a first begins f s fits) in
          let q2 = ap (λ x. leave (above f s) (with_end loop_end x)) p.1 in
          let kept = keep_append (length (f ++ s.frame)) (long c p.0 ∷ []) (f ++ r.state.frame) (length-append f r.state.frame ∙ ap (λ k. length f + k) (tree_exact n bs calm.grow (loop ts) s) ∙ sym (length-append f s.frame)) in
          q1 ∙ q2 ∙ ap {B = Run} (λ l. record { state = with_frame l r.state; end = loop_end r.end }) kept ∙ ap {B = Run} (λ x. record { state = above f r.state; end = x }) (tree_settled n bs calm (loop ts) s).1
