-- A loop that counts to a number known before runs like the trees that its turns stand for.
use Rattle.std.proofs.Common.{◌≡◌, refl, ap, ◌∙◌, ℕ, zero, suc, ◌<◌, List, Option, Some, None, Result, Ok, Bool, arith}
use Rattle.std.specs.Prelude.{nat_lt}
use Rattle.std.proofs.lemmas.Bool.{lt-ltb, le-ltb}
use Rattle.c_semantics.specs.Meaning.State.{State, count_turn}
use Rattle.c_tree.specs.declared.arithmetic.Trap.{Trap}
use Rattle.c_semantics.specs.Loops.IterationTrees.{Tree, Trees, no_trees, more_trees}
use Rattle.c_semantics.specs.Meaning.Runs.{End, Next, Break, Continue, Trapped, Cut, Run, Meaning, on_next, then_do, ask, repeat}
use Rattle.c_semantics.specs.Loops.Execution.{Body, run_tree, run_turns}

-- how many trees
abbrev pub size : Trees → ℕ
size no_trees = 0
size (more_trees t ts) = suc (size ts)

-- the tree at a place
abbrev pub tree_at : Trees → ℕ → Option Tree
tree_at no_trees i = None
tree_at (more_trees t ts) zero = Some t
tree_at (more_trees t ts) (suc i) = tree_at ts i

-- `at i s` is the state s with the counter at i
module _ (N n : ℕ) (bs : List Body) (at : ℕ → State → State) (Good : State → Type 0) (test : State → Result Bool Trap) (turn : Meaning) where
  -- the counter's value after a turn that ends like this
  abbrev pub bump : End → ℕ → ℕ
  bump Next i = suc i
  bump _ i = i

  abbrev pub with_counter : ℕ → Run → Run
  with_counter i r = record { state = at i r.state; end = r.end }

  -- what a turn does with the counter at i, where the i-th tree is t
  abbrev pub Turns : ℕ → Tree → Type 0
  Turns i t = (s : State) → Good s → (turn (at i s) ≡ with_counter (bump (run_tree n bs t (count_turn s)).end i) (run_tree n bs t (count_turn s))) × Good (run_tree n bs t (count_turn s)).state

  -- the trees from the i-th on are what is left of the turns
  abbrev pub AllTurn : ℕ → Trees → Type 0
  AllTurn i no_trees = i ≡ N
  AllTurn i (more_trees t ts) = (i < N) × Turns i t × AllTurn (suc i) ts

  module _ (tests : (i : ℕ) (s : State) → Good s → (test (at i s) ≡ Ok (nat_lt i N))) where
    -- the same run, but for the counter
    abbrev pub Counts : Run → Run → Type 0
    Counts r r' = (j : ℕ) × (r' ≡ with_counter j r)

    asks_yes : (i : ℕ) (s : State) (f g : Meaning) → Good s → i < N → ask (test (at i s)) f g (at i s) ≡ f (at i s)
    asks_yes i s f g h l = ap (λ o. ask o f g (at i s)) (tests i s h ∙ ap {B = Result Bool Trap} Ok (lt-ltb i N l))

    asks_no : (i : ℕ) (s : State) (f g : Meaning) → Good s → i ≡ N → ask (test (at i s)) f g (at i s) ≡ g (at i s)
    asks_no i s f g h e = ap (λ o. ask o f g (at i s)) (tests i s h ∙ ap {B = Result Bool Trap} Ok (le-ltb i N (omega (arith, e))))

    -- after a turn
    goes_on : (e : End) (i : ℕ) (u : State) (f g : Meaning) → ((u : State) → Good u → Counts (g u) (f (at (suc i) u))) → Good u → Counts (on_next e u g) (on_next e (at (bump e i) u) f)
    goes_on Next i u f g h k = h u k
    goes_on Break i u f g h k = (i, refl)
    goes_on Continue i u f g h k = (i, refl)
    goes_on (Trapped t) i u f g h k = (i, refl)
    goes_on Cut i u f g h k = (i, refl)

    pub counted : (ts : Trees) (k i : ℕ) → AllTurn i ts → (s : State) → Good s → Counts (run_turns n bs ts k s) (repeat k test turn (at i s))
    counted no_trees zero i a s h = (i, asks_no i s _ _ h a)
    counted no_trees (suc k) i a s h = (i, asks_no i s _ _ h a)
    counted (more_trees t ts) zero i a s h = (i, asks_yes i s _ _ h a.0)
    counted (more_trees t ts) (suc k) i a s h =
        let r = run_tree n bs t (count_turn s) in
        let one = a.1 s h in
        let rest = goes_on r.end i r.state (repeat k test turn) (run_turns n bs ts k) (λ u. counted ts k (suc i) a.2 u) one.1 in
        (rest.0, asks_yes i s _ _ h a.0 ∙ ap (λ x. then_do x (repeat k test turn)) one.0 ∙ rest.1)
