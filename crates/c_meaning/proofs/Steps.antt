-- The runs of statements from those of their parts, where the items before them are known.
use Rattle.std.proofs.Common.{◌≡◌, ◌≢◌, sym, subst, ℕ, zero, suc, ◌+◌, ◌-◌, ◌<◌, ◌≤◌, Bool, true, false, List, length, drop, Option, Result, Ok, Err, arith}
use Rattle.std.specs.Prelude.{slice_index_or}
use Rattle.c_tree.specs.Bare.{Expr, Stmts, MaybeStmt, Program}
use Rattle.resolved_names.specs.Numbered.{numbered_stmt, numbered_stmts}
use Rattle.c_tree.specs.declared.arithmetic.Trap.{Trap}
use Rattle.resolved_names.specs.declared.tree.Stmt as tree
use Rattle.c_semantics.specs.Meaning.State.{State}
use Rattle.c_semantics.specs.Meaning.Runs as runs
use Rattle.c_semantics.specs.Meaning.Runs.{Run, Meaning, ends, then_do, ask, in_block, with_end, repeat, repeat_after, turn_of, for_turn, while_loop, do_loop, loop_end, turn_end}
use Rattle.c_semantics.specs.Meaning.SimpleStatements.{Env, head_test}
use Rattle.c_semantics.specs.Meaning.Statements.{exec, exec_all, exec_maybe}
use Rattle.c_semantics.specs.Meaning.Programs.{env_after, no_env}
use Rattle.c_semantics.proofs.Invariant.{block_keeps, repeat_keeps, turn_keeps}
use Rattle.c_semantics.proofs.Grows.{MoreLines, lines_grow}
use Rattle.c_meaning.specs.declared.run.End.{End}
use Rattle.c_meaning.specs.declared.run.End.TheVariants.{Next, Trapped, Cut}
use Rattle.c_meaning.specs.declared.run.RunFault.{RunFault}
use Rattle.c_meaning.specs.Ends.{end_of}
use Rattle.c_meaning.specs.Loops.{counted_turn}
use Rattle.c_meaning.specs.States.{one_turn_more}
use Rattle.c_meaning.specs.Running.{Sunk, Ran}
use Rattle.c_meaning.proofs.Growth.{stmts_grow, part_grows}
use Rattle.c_meaning.proofs.Lists.{stmts_more, stmts_end}
use Rattle.c_meaning.proofs.Running.{Grows, Leads, ran_ends, leads_on, then_goes, then_stops, then_fails, end_ends, end_fails, Asks, test_holds, test_fails, test_traps, turn_counts}
use Rattle.c_meaning.proofs.States.{test_full}

module _ (n : ℕ) (p : Program) where
  abbrev env : Env
  env = env_after n no_env p

  -- ---- lists

  module _ (xs : List tree.Stmt) (i : ℕ) (m m1 : State) (o o1 : Sunk) where
    pub stmts_done : length xs ≤ i → Ran (exec_all n env (numbered_stmts (drop i xs))) m o m o (Ok Next)
    stmts_done h = subst (λ a. Ran (exec_all n env a) m o m o (Ok Next)) (sym (stmts_end xs i h)) (ran_ends m o Next)

    module _ (x : tree.Stmt) (h : i < length xs) (at : x ≡ slice_index_or xs i x) where
      pub stmts_next : Ran (exec n env (numbered_stmt x)) m o m1 o1 (Ok Next) → Leads (exec_all n env (numbered_stmts (drop i xs))) m o (exec_all n env (numbered_stmts (drop (i + 1) xs))) m1 o1
      stmts_next r = subst (λ a. Leads (exec_all n env a) m o (exec_all n env (numbered_stmts (drop (i + 1) xs))) m1 o1) (sym (stmts_more xs i x h at)) (then_goes (exec n env (numbered_stmt x)) (exec_all n env (numbered_stmts (drop (i + 1) xs))) m m1 o o1 r)

      pub stmts_stop : (e : End) → e ≢ Next → Ran (exec n env (numbered_stmt x)) m o m1 o1 (Ok e) → Ran (exec_all n env (numbered_stmts (drop i xs))) m o m1 o1 (Ok e)
      stmts_stop e not r = subst (λ a. Ran (exec_all n env a) m o m1 o1 (Ok e)) (sym (stmts_more xs i x h at)) (then_stops (exec n env (numbered_stmt x)) (exec_all n env (numbered_stmts (drop (i + 1) xs))) m m1 o o1 e not r)

      pub stmts_fail : (f : RunFault) → Ran (exec n env (numbered_stmt x)) m o m1 o1 (Err f) → Ran (exec_all n env (numbered_stmts (drop i xs))) m o m1 o1 (Err f)
      stmts_fail f r = subst (λ a. Ran (exec_all n env a) m o m1 o1 (Err f)) (sym (stmts_more xs i x h at)) (then_fails (exec n env (numbered_stmt x)) (exec_all n env (numbered_stmts (drop (i + 1) xs))) m m1 o o1 (stmts_grow n p (numbered_stmts (drop (i + 1) xs))) m1 f r)

  -- ---- loops

  asks_test : (e : Option Expr) → Asks (head_test env.defines e)
  asks_test e m lines turns = test_full env.defines m lines turns e

  pub turn_grows : (b : Bool) (a : Stmts) (next : MaybeStmt) → Grows (counted_turn b (exec_all n env a) (exec_maybe n env next))
  turn_grows true a next = turn_keeps MoreLines lines_grow (exec_all n env a) (exec_maybe n env next) (stmts_grow n p a) (part_grows n p next)
  turn_grows false a next = block_keeps MoreLines lines_grow (exec_all n env a) (stmts_grow n p a)

  module _ (e : Option Expr) (b : Bool) (a : Stmts) (next : MaybeStmt) where
    abbrev turn : Meaning
    turn = counted_turn b (exec_all n env a) (exec_maybe n env next)

    abbrev test : State → Result Bool Trap
    test = head_test env.defines e

    repeat_grows : (k : ℕ) → Grows (repeat k test turn)
    repeat_grows k = repeat_keeps MoreLines lines_grow k test turn (turn_grows b a next)

    module _ (m m1 : State) (o o1 : Sunk) where
      pub repeat_trap : (k : ℕ) (t : Trap) → test m ≡ Err t → Ran (repeat k test turn) m o m o (Ok (Trapped t))
      repeat_trap zero t is = test_traps test (asks_test e) (ends runs.Cut) (ends runs.Next) m o t is
      repeat_trap (suc k) t is = test_traps test (asks_test e) (λ u. then_do (turn u) (repeat k test turn)) (ends runs.Next) m o t is

      pub repeat_ends : (k : ℕ) → test m ≡ Ok false → Ran (repeat k test turn) m o m o (Ok Next)
      repeat_ends zero is = (test_fails test (asks_test e) (ends runs.Cut) (ends runs.Next) m o is).follows m o (Ok Next) (ran_ends m o Next)
      repeat_ends (suc k) is = (test_fails test (asks_test e) (λ u. then_do (turn u) (repeat k test turn)) (ends runs.Next) m o is).follows m o (Ok Next) (ran_ends m o Next)

      pub repeat_cut : (k : ℕ) → k ≡ 0 → test m ≡ Ok true → Ran (repeat k test turn) m o m o (Ok Cut)
      repeat_cut zero none is = (test_holds test (asks_test e) (ends runs.Cut) (ends runs.Next) m o is).follows m o (Ok Cut) (ran_ends m o Cut)
      repeat_cut (suc k) none is = absurd (omega arith)

      one_less : (k : ℕ) → suc k - 1 ≡ k
      one_less k = omega arith

      pub repeat_next : (k : ℕ) → 0 < k → test m ≡ Ok true → Ran turn m o m1 o1 (Ok Next) → Leads (repeat k test turn) m o (repeat (k - 1) test turn) m1 o1
      repeat_next zero some is r = absurd (omega arith)
      repeat_next (suc k) some is r =
          subst (λ j. Leads (repeat (suc k) test turn) m o (repeat j test turn) m1 o1) (sym (one_less k))
          (leads_on (repeat (suc k) test turn) (λ u. then_do (turn u) (repeat k test turn)) (repeat k test turn) m m m1 o o o1
          (test_holds test (asks_test e) (λ u. then_do (turn u) (repeat k test turn)) (ends runs.Next) m o is)
          (then_goes turn (repeat k test turn) m m1 o o1 r))

      pub repeat_stop : (k : ℕ) → 0 < k → test m ≡ Ok true → (end : End) → end ≢ Next → Ran turn m o m1 o1 (Ok end) → Ran (repeat k test turn) m o m1 o1 (Ok end)
      repeat_stop zero some is end not r = absurd (omega arith)
      repeat_stop (suc k) some is end not r =
          (test_holds test (asks_test e) (λ u. then_do (turn u) (repeat k test turn)) (ends runs.Next) m o is).follows m1 o1 (Ok end) (then_stops turn (repeat k test turn) m m1 o o1 end not r)

      pub repeat_fail : (k : ℕ) → 0 < k → test m ≡ Ok true → (f : RunFault) → Ran turn m o m1 o1 (Err f) → Ran (repeat k test turn) m o m1 o1 (Err f)
      repeat_fail zero some is f r = absurd (omega arith)
      repeat_fail (suc k) some is f r =
          (test_holds test (asks_test e) (λ u. then_do (turn u) (repeat k test turn)) (ends runs.Next) m o is).follows m1 o1 (Err f) (then_fails turn (repeat k test turn) m m1 o o1 (repeat_grows k) m1 f r)

      pub after_cut : (k : ℕ) → k ≡ 0 → Ran (repeat_after k test turn) m o m o (Ok Cut)
      after_cut zero none = ran_ends m o Cut
      after_cut (suc k) none = absurd (omega arith)

      pub after_next : (k : ℕ) → 0 < k → Ran turn m o m1 o1 (Ok Next) → Leads (repeat_after k test turn) m o (repeat (k - 1) test turn) m1 o1
      after_next zero some r = absurd (omega arith)
      after_next (suc k) some r = subst (λ j. Leads (repeat_after (suc k) test turn) m o (repeat j test turn) m1 o1) (sym (one_less k)) (then_goes turn (repeat k test turn) m m1 o o1 r)

      pub after_stop : (k : ℕ) → 0 < k → (end : End) → end ≢ Next → Ran turn m o m1 o1 (Ok end) → Ran (repeat_after k test turn) m o m1 o1 (Ok end)
      after_stop zero some end not r = absurd (omega arith)
      after_stop (suc k) some end not r = then_stops turn (repeat k test turn) m m1 o o1 end not r

      pub after_fail : (k : ℕ) → 0 < k → (f : RunFault) → Ran turn m o m1 o1 (Err f) → Ran (repeat_after k test turn) m o m1 o1 (Err f)
      after_fail zero some f r = absurd (omega arith)
      after_fail (suc k) some f r = then_fails turn (repeat k test turn) m m1 o o1 (repeat_grows k) m1 f r

  -- ---- turns

  module _ (a : Stmts) (next : MaybeStmt) (b : Bool) (m m1 : State) (o o1 : Sunk) where
    abbrev turned : Meaning
    turned = counted_turn b (exec_all n env a) (exec_maybe n env next)

    pub turn_plain : b ≡ false → (e e' : End) → end_of e' ≡ turn_end (end_of e) → Ran (in_block (exec_all n env a)) m o m1 o1 (Ok e) → Ran turned m o m1 o1 (Ok e')
    turn_plain is e e' ends_so r = subst (λ c. Ran (counted_turn c (exec_all n env a) (exec_maybe n env next)) m o m1 o1 (Ok e')) (sym is) (end_ends (in_block (exec_all n env a)) m m1 o o1 turn_end e e' ends_so r)

    pub turn_plain_fails : b ≡ false → (f : RunFault) → Ran (in_block (exec_all n env a)) m o m1 o1 (Err f) → Ran turned m o m1 o1 (Err f)
    turn_plain_fails is f r = subst (λ c. Ran (counted_turn c (exec_all n env a) (exec_maybe n env next)) m o m1 o1 (Err f)) (sym is) (end_fails (in_block (exec_all n env a)) m m1 o o1 turn_end m1 f r)

    counted_leads : b ≡ true → Leads turned m o (λ s. then_do (turn_of (exec_all n env a) s) (exec_maybe n env next)) (one_turn_more m) o
    counted_leads is = subst (λ c. Leads (counted_turn c (exec_all n env a) (exec_maybe n env next)) m o (λ s. then_do (turn_of (exec_all n env a) s) (exec_maybe n env next)) (one_turn_more m) o) (sym is) (turn_counts (λ s. then_do (turn_of (exec_all n env a) s) (exec_maybe n env next)) m o)

    pub turn_goes : b ≡ true → (e : End) → end_of Next ≡ turn_end (end_of e) → Ran (in_block (exec_all n env a)) (one_turn_more m) o m1 o1 (Ok e) → Leads turned m o (exec_maybe n env next) m1 o1
    turn_goes is e ends_so r = leads_on turned _ (exec_maybe n env next) m (one_turn_more m) m1 o o o1 (counted_leads is) (then_goes (turn_of (exec_all n env a)) (exec_maybe n env next) (one_turn_more m) m1 o o1 (end_ends (in_block (exec_all n env a)) (one_turn_more m) m1 o o1 turn_end e Next ends_so r))

    pub turn_stops : b ≡ true → (e e' : End) → end_of e' ≡ turn_end (end_of e) → e' ≢ Next → Ran (in_block (exec_all n env a)) (one_turn_more m) o m1 o1 (Ok e) → Ran turned m o m1 o1 (Ok e')
    turn_stops is e e' ends_so not r = (counted_leads is).follows m1 o1 (Ok e') (then_stops (turn_of (exec_all n env a)) (exec_maybe n env next) (one_turn_more m) m1 o o1 e' not (end_ends (in_block (exec_all n env a)) (one_turn_more m) m1 o o1 turn_end e e' ends_so r))

    pub turn_fails : b ≡ true → (f : RunFault) → Ran (in_block (exec_all n env a)) (one_turn_more m) o m1 o1 (Err f) → Ran turned m o m1 o1 (Err f)
    turn_fails is f r = (counted_leads is).follows m1 o1 (Err f) (then_fails (turn_of (exec_all n env a)) (exec_maybe n env next) (one_turn_more m) m1 o o1 (part_grows n p next) m1 f (end_fails (in_block (exec_all n env a)) (one_turn_more m) m1 o o1 turn_end m1 f r))
