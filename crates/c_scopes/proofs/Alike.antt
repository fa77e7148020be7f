-- Meanings that do the same wherever a state has the variables of a scope.
use Rattle.std.proofs.Common.{◌≡◌, refl, ap, ◌∙◌, ℕ, zero, suc, List, slice_get, Result, Ok, Err, Bool, true, false, ℤ}
use Rattle.c_tree.specs.declared.arithmetic.Trap.{Trap}
use Rattle.c_semantics.specs.Meaning.State.{State, count_turn}
use Rattle.c_semantics.specs.Meaning.Runs.{End, Next, Break, Continue, Trapped, Cut, Run, Meaning, ends, on_next, then_do, with_value, leave, in_block, ask, turn_end, with_end, repeat, repeat_after, turn_of, for_turn, while_loop, do_loop, loop_end}
use Rattle.c_semantics.specs.Loops.IterationTrees.{Tree, body, do_all, loop, Trees, no_trees, more_trees, of_list}
use Rattle.c_semantics.specs.Loops.Execution.{Body, run_body, run_tree, run_all, run_turns, run_forest}
use Rattle.c_scopes.specs.Types.{HasTypes}

abbrev pub AlikeIn : State → Meaning → Meaning → Type 0
AlikeIn scope f g = (s : State) → HasTypes scope s → f s ≡ g s

abbrev pub KeepsIn : State → Meaning → Type 0
KeepsIn scope f = (s : State) → HasTypes scope s → HasTypes scope (f s).state

pub counted : (scope s : State) → HasTypes scope s → HasTypes scope (count_turn s)
counted scope s t = record { seen = t.seen; filed = t.filed }

-- ---- one after another

on_next_alike : (e : End) (u : State) (f g : Meaning) → (e ≡ Next → f u ≡ g u) → on_next e u f ≡ on_next e u g
on_next_alike Next u f g h = h refl
on_next_alike Break u f g h = refl
on_next_alike Continue u f g h = refl
on_next_alike (Trapped t) u f g h = refl
on_next_alike Cut u f g h = refl

pub then_alike : (r : Run) (f g : Meaning) → (r.end ≡ Next → f r.state ≡ g r.state) → then_do r f ≡ then_do r g
then_alike r f g h = on_next_alike r.end r.state f g h

then_keeps : (scope : State) (r : Run) (f : Meaning) → HasTypes scope r.state → KeepsIn scope f → HasTypes scope (then_do r f).state
then_keeps scope r f h k = by r.end
  where
    by : (e : End) → HasTypes scope (on_next e r.state f).state
    by Next = k r.state h
    by Break = h
    by Continue = h
    by (Trapped t) = h
    by Cut = h

pub value_alike : {A : Type 0} (o : Result A Trap) (s : State) (f g : A → Run) → ((a : A) → o ≡ Ok a → f a ≡ g a) → with_value o s f ≡ with_value o s g
value_alike (Err t) s f g h = refl
value_alike (Ok a) s f g h = h a refl

pub ask_alike : (o : Result Bool Trap) (f g h k : Meaning) (s : State) → f s ≡ g s → h s ≡ k s → ask o f h s ≡ ask o g k s
ask_alike (Err t) f g h k s p q = refl
ask_alike (Ok true) f g h k s p q = p
ask_alike (Ok false) f g h k s p q = q

module _ (scope : State) where
  pub block_alike : (f g : Meaning) → AlikeIn scope f g → AlikeIn scope (in_block f) (in_block g)
  block_alike f g h s t = ap (leave s) (h s t)

  pub turn_of_alike : (f g : Meaning) → AlikeIn scope f g → AlikeIn scope (turn_of f) (turn_of g)
  turn_of_alike f g h s t = ap (λ r. with_end turn_end (leave s r)) (h s t)

  -- ---- loops

  pub for_turn_alike : (f g next last : Meaning) → AlikeIn scope f g → AlikeIn scope next last → KeepsIn scope (turn_of g) → AlikeIn scope (for_turn f next) (for_turn g last)
  for_turn_alike f g next last h k keeps s t =
      let u = counted scope s t in
      ap (λ r. then_do r next) (turn_of_alike f g h (count_turn s) u)
      ∙ then_alike (turn_of g (count_turn s)) next last (λ e. k (turn_of g (count_turn s)).state (keeps (count_turn s) u))

  pub for_turn_keeps : (f next : Meaning) → KeepsIn scope (turn_of f) → KeepsIn scope next → KeepsIn scope (for_turn f next)
  for_turn_keeps f next h k s t = then_keeps scope (turn_of f (count_turn s)) next (h (count_turn s) (counted scope s t)) k

  module _ (test : State → Result Bool Trap) (f g : Meaning) (h : AlikeIn scope f g) (keeps : KeepsIn scope g) where
    repeat_alike : (k : ℕ) → AlikeIn scope (repeat k test f) (repeat k test g)
    repeat_alike zero s t = refl
    repeat_alike (suc k) s t =
        ask_alike (test s) (λ u. then_do (f u) (repeat k test f)) (λ u. then_do (g u) (repeat k test g)) (ends Next) (ends Next) s
        (ap (λ r. then_do r (repeat k test f)) (h s t) ∙ then_alike (g s) (repeat k test f) (repeat k test g) (λ e. repeat_alike k (g s).state (keeps s t))) refl

    repeat_after_alike : (k : ℕ) → AlikeIn scope (repeat_after k test f) (repeat_after k test g)
    repeat_after_alike zero s t = refl
    repeat_after_alike (suc k) s t =
        ap (λ r. then_do r (repeat k test f)) (h s t) ∙ then_alike (g s) (repeat k test f) (repeat k test g) (λ e. repeat_alike k (g s).state (keeps s t))

    pub while_alike : (n : ℕ) → AlikeIn scope (while_loop n test f) (while_loop n test g)
    while_alike n s t = ap (with_end loop_end) (repeat_alike n s t)

    pub do_alike : (n : ℕ) → AlikeIn scope (do_loop n test f) (do_loop n test g)
    do_alike n s t = ap (with_end loop_end) (repeat_after_alike n s t)

  -- ---- iterations

  module _ (n : ℕ) (bs cs : List Body) (h : (i : ℕ) (zs : List ℤ) → AlikeIn scope (run_body (slice_get bs i) zs) (run_body (slice_get cs i) zs)) (keeps : (i : ℕ) (zs : List ℤ) → KeepsIn scope (run_body (slice_get cs i) zs)) where
    mutual
      tree_keeps : (t : Tree) → KeepsIn scope (run_tree n cs t)
      tree_keeps (body b zs) s t = keeps b zs s t
      tree_keeps (do_all ts) s t = trees_keep ts s t
      tree_keeps (loop ts) s t = turns_keep ts n s t

      trees_keep : (ts : Trees) → KeepsIn scope (run_all n cs ts)
      trees_keep no_trees s t = t
      trees_keep (more_trees x ts) s t = then_keeps scope (run_tree n cs x s) (run_all n cs ts) (tree_keeps x s t) (trees_keep ts)

      turns_keep : (ts : Trees) (k : ℕ) → KeepsIn scope (λ s. run_turns n cs ts k s)
      turns_keep no_trees k s t = t
      turns_keep (more_trees x ts) zero s t = t
      turns_keep (more_trees x ts) (suc k) s t = then_keeps scope (run_tree n cs x (count_turn s)) (run_turns n cs ts k) (tree_keeps x (count_turn s) (counted scope s t)) (turns_keep ts k)

    mutual
      tree_alike : (t : Tree) → AlikeIn scope (run_tree n bs t) (run_tree n cs t)
      tree_alike (body b zs) s t = h b zs s t
      tree_alike (do_all ts) s t = trees_alike ts s t
      tree_alike (loop ts) s t = turns_alike ts n s t

      trees_alike : (ts : Trees) → AlikeIn scope (run_all n bs ts) (run_all n cs ts)
      trees_alike no_trees s t = refl
      trees_alike (more_trees x ts) s t =
          ap (λ r. then_do r (run_all n bs ts)) (tree_alike x s t) ∙ then_alike (run_tree n cs x s) (run_all n bs ts) (run_all n cs ts) (λ e. trees_alike ts (run_tree n cs x s).state (tree_keeps x s t))

      turns_alike : (ts : Trees) (k : ℕ) → AlikeIn scope (λ s. run_turns n bs ts k s) (λ s. run_turns n cs ts k s)
      turns_alike no_trees k s t = refl
      turns_alike (more_trees x ts) zero s t = refl
      turns_alike (more_trees x ts) (suc k) s t =
          let u = counted scope s t in
          ap (λ r. then_do r (run_turns n bs ts k)) (tree_alike x (count_turn s) u)
          ∙ then_alike (run_tree n cs x (count_turn s)) (run_turns n bs ts k) (run_turns n cs ts k) (λ e. turns_alike ts k (run_tree n cs x (count_turn s)).state (tree_keeps x (count_turn s) u))

    pub forest_alike : (r : Result (List Tree) Trap) → AlikeIn scope (run_forest n r bs) (run_forest n r cs)
    forest_alike r s t = value_alike r s (λ ts. run_all n bs (of_list ts) s) (λ ts. run_all n cs (of_list ts) s) (λ ts e. trees_alike (of_list ts) s t)
