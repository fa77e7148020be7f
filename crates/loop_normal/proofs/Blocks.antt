-- Generated loops, their parts in order, and the block of a construct.
use Rattle.std.proofs.Common.{◌≡◌, refl, sym, ap, ◌∙◌, subst, ℕ, ◌+◌, List, [], ◌∷◌, ◌++◌, length, Some, Result, Ok, Err, append_assoc}
use Rattle.std.proofs.lemmas.List.{length-append}
use Rattle.c_tree.specs.Bare.{Name, block, decl, Stmts, no_stmts, more_stmts}
use Rattle.c_tree.specs.declared.tree.Ty.TheVariants.{Long}
use Rattle.c_semantics.specs.Meaning.State.{Var, State, keep, with_frame}
use Rattle.c_tree.specs.declared.arithmetic.Trap.{Trap}
use Rattle.c_semantics.specs.Loops.IterationTrees.{Tree, of_list, do_of}
use Rattle.c_semantics.specs.Meaning.Runs.{End, Next, Break, Continue, Trapped, Cut, Run, Meaning, ends, on_next, then_do, leave, with_end, turn_end, turn_of}
use Rattle.c_semantics.specs.Meaning.SimpleStatements.{Env}
use Rattle.c_semantics.specs.Loops.Execution.{Body, run_tree, run_all, run_forest}
use Rattle.c_semantics.specs.Meaning.Statements.{exec, exec_all}
use Rattle.loop_normal.specs.Gens.{GenLoop, gen_loop, Inner, Nest, Seq, Part, Looped, Plain, Parts, no_parts, more_parts, Gen, join, loop_stmts, inner_stmts, part_stmts, parts_stmts, emit, counter_loop}
use Rattle.loop_normal.specs.Frames.{above, run_above, long, Agrees, Foreign}
use Rattle.loop_normal.specs.Denotes.{Calm, LetsRun, Turns, LoopMeans, InnerMeans, Acts, LetsApart, lets_of, PartMeans, PartsMean, GenMeans}
use Rattle.loop_normal.proofs.TreeFrames.{tree_exact}
use Rattle.loop_normal.proofs.FreshFrames.{agrees_then, agrees_push, agrees_new, agrees_same, keep_append}
use Rattle.loop_normal.proofs.Loops.{tree_settled, run_lets, loop_runs}

pub then_done : (r : Run) → then_do r (ends Next) ≡ r
then_done r = by r.end
  where
    by : (e : End) → on_next e r.state (ends Next) ≡ record { state = r.state; end = e }
    by Next = refl
    by Break = refl
    by Continue = refl
    by (Trapped x) = refl
    by Cut = refl

then_assoc : (r : Run) (f g : Meaning) → then_do (then_do r f) g ≡ then_do r (λ s. then_do (f s) g)
then_assoc r f g = by r.end
  where
    by : (e : End) → then_do (on_next e r.state f) g ≡ on_next e r.state (λ s. then_do (f s) g)
    by Next = refl
    by Break = refl
    by Continue = refl
    by (Trapped x) = refl
    by Cut = refl

then_same : (r : Run) (f g : Meaning) → ((s : State) → f s ≡ g s) → then_do r f ≡ then_do r g
then_same r f g h = by r.end
  where
    by : (e : End) → on_next e r.state f ≡ on_next e r.state g
    by Next = h r.state
    by Break = refl
    by Continue = refl
    by (Trapped x) = refl
    by Cut = refl

module _ (n : ℕ) (env : Env) where
  pub exec_join : (a b : Stmts) (s : State) → exec_all n env (join a b) s ≡ then_do (exec_all n env a s) (exec_all n env b)
  exec_join no_stmts b s = refl
  exec_join (more_stmts a as') b s = then_same (exec n env a s) _ _ (exec_join as' b) ∙ sym (then_assoc (exec n env a s) (exec_all n env as') (exec_all n env b))

  module _ (bs : List Body) (Out : Name → Type 0) (calm : Calm bs) where
    -- what a list leaves above a frame goes with its block
    pub block_drops : (as' : Stmts) (t : Tree) (f g : List Var) (s : State) → exec_all n env as' (above f s) ≡ run_above (g ++ f) (run_tree n bs t s) → turn_of (exec_all n env as') (above f s) ≡ run_above f (run_tree n bs t s)
    block_drops as' t f g s h =
        let r = run_tree n bs t s in
        let kept = ap (keep (length (f ++ s.frame))) (append_assoc g f r.state.frame) ∙ keep_append (length (f ++ s.frame)) g (f ++ r.state.frame) (length-append f r.state.frame ∙ ap (λ k. length f + k) (tree_exact n bs calm.grow t s) ∙ sym (length-append f s.frame)) in
        ap (λ x. with_end turn_end (leave (above f s) x)) h ∙ ap {B = Run} (λ l. record { state = with_frame l r.state; end = turn_end r.end }) kept ∙ ap {B = Run} (λ x. record { state = above f r.state; end = x }) (tree_settled n bs calm t s).0

    pub acts_turn : (p : List Var) (as' : Stmts) (t : Tree) → Acts n env bs Out p as' t → Turns n env bs Out p as' t
    acts_turn p as' t h f s a b = let r = h f s a b in block_drops as' t f r.0 s r.3

    mutual
      -- where the lets lead, and what the loop does there
      loop_does : (l : GenLoop) (p : List Var) (t : Tree) → LoopMeans n env bs Out l p t → (f : List Var) → Agrees p f → Foreign Out f →
          (g : List Var) × Foreign Out (g ++ f) × ((s : State) → exec_all n env (loop_stmts l) (above f s) ≡ run_above (g ++ f) (run_tree n bs t s))
      loop_does (gen_loop ls c a b inner) p t h f fits free =
          let r = run_lets n env bs Out calm ls p h.frame h.lets f fits free in
          let one = λ (s : State). loop_runs n env bs Out calm h.frame c a b (inner_stmts inner) h.first h.width h.begins h.stops h.foreign (r.0 ++ f) r.1 r.2 h.child (λ j l. inner_turns inner _ (h.child j) (h.below j l)) s in
          (r.0, r.2, λ s. r.3 (more_stmts (counter_loop c a b (inner_stmts inner)) no_stmts) s ∙ then_done _ ∙ one s ∙ ap (λ u. run_above (r.0 ++ f) (run_tree n bs u s)) (sym h.shape))

      pub inner_turns : (i : Inner) (p : List Var) (t : Tree) → InnerMeans n env bs Out i p t → Turns n env bs Out p (inner_stmts i) t
      inner_turns (Nest l) p t h f s a b = let r = loop_does l p t h f a b in block_drops (loop_stmts l) t f r.0 s (r.2 s)
      inner_turns (Seq ps) p t h f s a b = h f s a b

    pub loop_turns : (l : GenLoop) (p : List Var) (t : Tree) → LoopMeans n env bs Out l p t → Turns n env bs Out p (loop_stmts l) t
    loop_turns l p t h = inner_turns (Nest l) p t h

    -- declarations that have none of the frame's names
    lets_agree : (ls : Stmts) (p q m : List Var) → LetsApart ls m → LetsRun n env bs Out ls p q → Agrees m p → Agrees m q
    lets_agree no_stmts p q m a h e = subst (Agrees m) (sym h) e
    lets_agree (more_stmts (decl Long x (Some d)) ls) p q m a h e = lets_agree ls (long x h.1 ∷ p) q m a.1 h.3 (agrees_new (long x h.1) m p a.0 e)
    lets_agree (more_stmts _ ls) p q m a h e = absurd h

    pub lets_apart : (ls : Stmts) (p q : List Var) → LetsApart ls p → LetsRun n env bs Out ls p q → Agrees p q
    lets_apart ls p q a h = lets_agree ls p q p a h (agrees_same p)

    loop_acts : (l : GenLoop) (p : List Var) (t : Tree) → LoopMeans n env bs Out l p t → LetsApart (lets_of l) p → Acts n env bs Out p (loop_stmts l) t
    loop_acts (gen_loop ls c a b inner) p t h k f s fits free =
        let r = run_lets n env bs Out calm ls p h.frame h.lets f fits free in
        let d = loop_runs n env bs Out calm h.frame c a b (inner_stmts inner) h.first h.width h.begins h.stops h.foreign (r.0 ++ f) r.1 r.2 h.child (λ j l. inner_turns inner _ (h.child j) (h.below j l)) s in
        (r.0, agrees_then p h.frame (r.0 ++ f) (lets_apart ls p h.frame k h.lets) r.1, r.2, r.3 (more_stmts (counter_loop c a b (inner_stmts inner)) no_stmts) s ∙ then_done _ ∙ d ∙ ap (λ u. run_above (r.0 ++ f) (run_tree n bs u s)) (sym h.shape))

    part_acts : (a : Part) (p : List Var) (t : Tree) → PartMeans n env bs Out a p t → Acts n env bs Out p (part_stmts a) t
    part_acts (Looped l) p t h = loop_acts l p t h.0 h.1
    part_acts (Plain as') p t h = h

    -- the same run, with more above the frame
    abbrev After : List Var → List Var → Run → Run → Type 0
    After p f x y = (g : List Var) × Agrees p (g ++ f) × Foreign Out (g ++ f) × (x ≡ run_above (g ++ f) y)

    -- parts in order are the Do of their trees
    pub parts_act : (as' : Parts) (p : List Var) (ts : List Tree) → PartsMean n env bs Out as' p ts → Acts n env bs Out p (parts_stmts as') (do_of ts)
    parts_act no_parts p [] h f s a b = ([], a, b, refl)
    parts_act no_parts p (t ∷ ts) h f s a b = absurd h
    parts_act (more_parts a as') p [] h f s fits free = absurd h
    parts_act (more_parts a as') p (t ∷ ts) h f s fits free =
        let one = part_acts a p t h.0 f s fits free in
        let r = run_tree n bs t s in
        let rest = goes_on (one.0 ++ f) one.1 one.2 (λ u. parts_act as' p ts h.1 (one.0 ++ f) u one.1 one.2) r.end r.state in
        let e = append_assoc rest.0 one.0 f in (
          rest.0 ++ one.0,
          subst (Agrees p) (sym e) rest.1,
          subst (Foreign Out) (sym e) rest.2,
          exec_join (part_stmts a) (parts_stmts as') (above f s) ∙ ap (λ x. then_do x (exec_all n env (parts_stmts as'))) one.3 ∙ rest.3 ∙ ap (λ g. run_above g (run_tree n bs (do_of (t ∷ ts)) s)) (sym e),
        )
      where
        goes_on : (f : List Var) → Agrees p f → Foreign Out f → ((u : State) → After p f (exec_all n env (parts_stmts as') (above f u)) (run_all n bs (of_list ts) u)) →
            (e : End) (u : State) → After p f (on_next e (above f u) (exec_all n env (parts_stmts as'))) (on_next e u (run_all n bs (of_list ts)))
        goes_on f x y go Next u = go u
        goes_on f x y go Break u = ([], x, y, refl)
        goes_on f x y go Continue u = ([], x, y, refl)
        goes_on f x y go (Trapped e) u = ([], x, y, refl)
        goes_on f x y go Cut u = ([], x, y, refl)

    fronts_agree : (p h f : List Var) → Agrees p f → Agrees (h ++ p) (h ++ f)
    fronts_agree p [] f a = a
    fronts_agree p (v ∷ h) f a = agrees_push v (h ++ p) (h ++ f) (fronts_agree p h f a)

    pub fronts_free : (h f : List Var) → Foreign Out h → Foreign Out f → Foreign Out (h ++ f)
    fronts_free [] f a b = b
    fronts_free (v ∷ h) f a b = (a.0, fronts_free h f a.1 b)

    -- the block of a construct does what its forest does, from every state
    pub gen_runs : (g : Gen) (s : State) (r : Result (List Tree) Trap) → GenMeans n env bs Out g [] s r → exec n env (block (emit g)) s ≡ run_forest n r bs s
    gen_runs g s (Err x) h =
        let d = h [] (agrees_same []) tt in
        ap (leave s) (exec_join g.front (parts_stmts g.parts) s ∙ ap (λ r. then_do r (exec_all n env (parts_stmts g.parts))) d.1) ∙ ap {B = Run} (λ l. record { state = with_frame l s; end = Trapped x }) (ap (keep (length s.frame)) (append_assoc d.0 [] s.frame) ∙ keep_append (length s.frame) d.0 s.frame refl)
    gen_runs g s (Ok ts) h =
        let start = h.1.1 [] (agrees_same []) tt in
        let r = run_all n bs (of_list ts) s in
        let d = parts_act g.parts (h.0 ++ []) ts h.2 (h.0 ++ []) s (agrees_same (h.0 ++ [])) (fronts_free h.0 [] h.1.0 tt) in
        let l = d.0 ++ (h.0 ++ []) in
        let kept = keep_append (length s.frame) l r.state.frame (tree_exact n bs calm.grow (do_of ts) s) in
        ap (leave s) (exec_join g.front (parts_stmts g.parts) s ∙ ap (λ r. then_do r (exec_all n env (parts_stmts g.parts))) start ∙ d.3) ∙ ap {B = Run} (λ l. record { state = with_frame l r.state; end = r.end }) kept
