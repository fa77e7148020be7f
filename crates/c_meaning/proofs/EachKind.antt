-- The run of each kind of statement, from the runs of its parts.
use Rattle.std.proofs.Common.{◌≡◌, ◌≢◌, ◌∙◌, ◌≤◌, sym, ap, refl, subst, ℕ, Bool, true, false, List, [], length, Option, Some, None, Result, Ok, Err, ℤ}
use Rattle.std.specs.Prelude.{IfOk, IfErr, if◌then◌else◌}
use Rattle.std.specs.Option.{option_map}
use Rattle.c_tree.specs.Bare.{Name, Expr, num, Exprs, Target, Stmt, decl, set, step, input, while_, do_, for_, call, Stmts, MaybeStmt, no_stmt, Head, head, Program}
use Rattle.resolved_names.specs.Numbered.{numbered_stmt, numbered_stmts, maybe_stmt}
use Rattle.resolved_names.specs.declared.tree.Stmt as tree
use Rattle.c_tree.specs.Arithmetic.{and_then, convert}
use Rattle.c_tree.specs.declared.arithmetic.Trap.{Trap}
use Rattle.c_tree.specs.declared.arithmetic.Trap.TheVariants.{Unset}
use Rattle.c_tree.specs.declared.tree.SetOp.{SetOp}
use Rattle.c_tree.specs.declared.tree.SetOp.TheVariants.{Add, Sub}
use Rattle.c_tree.specs.declared.tree.Ty.{Ty}
use Rattle.c_tree.specs.declared.tree.Ty.TheVariants.{Int, Long}
use Rattle.c_semantics.specs.Meaning.State.{Var, State, keep, with_frame, print_line}
use Rattle.c_semantics.specs.Meaning.Expressions.{Define, eval}
use Rattle.c_semantics.specs.Meaning.Runs as runs
use Rattle.c_semantics.specs.Meaning.Runs.{Run, Meaning, ends, in_block, repeat, repeat_after, while_loop, loop_end}
use Rattle.c_semantics.specs.Meaning.SimpleStatements.{Env, Function, declared, set_to, step_by, take_input, print_value, head_test, holds_in, arguments, call_of, call_end, in_frame, function_named}
use Rattle.c_semantics.specs.Meaning.Statements.{exec, exec_all, exec_maybe}
use Rattle.c_semantics.specs.Meaning.Programs.{env_after, no_env}
use Rattle.c_semantics.proofs.Invariant.{repeat_keeps}
use Rattle.c_semantics.proofs.Grows.{MoreLines, lines_grow}
use Rattle.outside_io.specs.Bytes.{Gains, GainsPrefix}
use Rattle.outside_io.specs.Faults.{Rose}
use Rattle.c_meaning.specs.declared.functions.Stop.{Stop}
use Rattle.c_meaning.specs.declared.functions.Stop.TheVariants as stop
use Rattle.c_meaning.specs.declared.loops.Loop.{Loop}
use Rattle.c_meaning.specs.declared.run.End.{End}
use Rattle.c_meaning.specs.declared.run.End.TheVariants.{Next, Trapped}
use Rattle.c_meaning.specs.declared.run.RunFault.{RunFault}
use Rattle.c_meaning.specs.declared.run.RunFault.TheVariants.{WriteFault, Memory}
use Rattle.c_meaning.specs.Choices.{if_of}
use Rattle.c_meaning.specs.Ends.{end_of}
use Rattle.c_meaning.specs.Functions.{Stops, stopped_as}
use Rattle.c_meaning.specs.Loops.{counted_turn, head_run, next_of, test_of, turn_in}
use Rattle.c_meaning.specs.Running.{Sunk, Ran, line_text}
use Rattle.c_meaning.proofs.Growth.{stmt_grows}
use Rattle.c_meaning.proofs.Running.{Grows, ran_quietly, ran_memory, then_goes, then_stops, then_fails, block_ends, block_fails, end_ends, end_fails, frame_ends, frame_fails, Asks, test_holds, test_fails, test_traps, value_goes, value_traps, ran_ends, line_printed, line_failed}
use Rattle.c_meaning.proofs.States.{run_full, eval_full, holds_full, arguments_full, declared_full, set_full, input_full}
use Rattle.c_meaning.proofs.Steps.{turn_grows}

-- ---- print

module _ (ds : List Define) (e : Expr) (m : State) (o o1 : Sunk) where
  abbrev said : State → Result ℤ Trap
  said s = and_then (eval ds s e) (convert Long)

  abbrev line : ℤ → Meaning
  line z s = ends runs.Next (print_line z s)

  asks_said : Asks said
  asks_said s lines turns = ap (λ r. and_then r (convert Long)) (eval_full ds s lines turns e)

  pub print_traps : (t : Trap) → Err t ≡ said m → Ran (print_value ds e) m o m o (Ok (Trapped t))
  print_traps t is = value_traps said asks_said line m o t (sym is)

  pub print_prints : (z : ℤ) → Ok z ≡ said m → Gains o.held o1.held (line_text z) → o.faults ≤ o1.faults → Ran (print_value ds e) m o m o1 (Ok Next)
  print_prints z is gains faults = (value_goes said asks_said line m o z (sym is)).follows m o1 (Ok Next) (line_printed z m o o1 gains faults)

  pub print_fails : (z : ℤ) → Ok z ≡ said m → GainsPrefix o.held o1.held (line_text z) → Rose o.faults o1.faults → o.faults ≤ o1.faults → Ran (print_value ds e) m o m o1 (Err WriteFault)
  print_fails z is gains rose faults = (value_goes said asks_said line m o z (sym is)).follows m o1 (Err WriteFault) (line_failed z m m o o1 gains rose faults)

-- ---- what was declared is dropped

module _ (f : Meaning) (m m1 m2 : State) (o o1 : Sunk) where
  pub left_ends : (len : ℕ) → len ≡ length m.frame → m2 ≡ with_frame (keep len m1.frame) m1 → (e : End) → Ran f m o m1 o1 (Ok e) → Ran (in_block f) m o m2 o1 (Ok e)
  left_ends len long is e r = subst (λ s. Ran (in_block f) m o s o1 (Ok e)) (sym (is ∙ ap (λ k. with_frame (keep k m1.frame) m1) long)) (block_ends f m m1 o o1 e r)

module _ (n : ℕ) (p : Program) where
  abbrev env : Env
  env = env_after n no_env p

  -- ---- a statement is run as what it is without its places

  pub run_as : (a b : Stmt) (m m1 : State) (o o1 : Sunk) (r : Result End RunFault) → a ≡ b → Ran (exec n env b) m o m1 o1 r → Ran (exec n env a) m o m1 o1 r
  run_as a b m m1 o o1 r is ran = subst (λ c. Ran (exec n env c) m o m1 o1 r) (sym is) ran

  -- ---- statements without parts

  module _ (m m1 : State) (o : Sunk) where
    pub decl_runs : (t : Ty) (x : Name) (e : Option Expr) (r : Result End RunFault) → IfOk r (λ end. declared env.defines t x e m ≡ record { state = m1; end = end_of end }) → IfOk r (λ _. m1.turns ≡ m.turns) → IfErr r (λ f. f ≡ Memory) → Ran (exec n env (decl t x e)) m o m1 o r
    decl_runs t x e (Ok end) run turns fault = ran_quietly (exec n env (decl t x e)) m m1 o end (λ lines k. declared_full env.defines m lines k t x e ∙ ap (run_full env.defines m lines k) run) turns
    decl_runs t x e (Err f) run turns fault = subst (λ g. Ran (exec n env (decl t x e)) m o m1 o (Err g)) (sym fault) (ran_memory (exec n env (decl t x e)) m m1 o (stmt_grows n p (decl t x e)))

    pub set_runs : (t : Target) (op : SetOp) (e : Expr) (end : End) → set_to env.defines t op e m ≡ record { state = m1; end = end_of end } → m1.turns ≡ m.turns → Ran (exec n env (set t op e)) m o m1 o (Ok end)
    set_runs t op e end run turns = ran_quietly (exec n env (set t op e)) m m1 o end (λ lines k. set_full env.defines m lines k t op e ∙ ap (run_full env.defines m lines k) run) turns

    pub step_runs : (t : Target) (up : Bool) (end : End) → step_by env.defines t up m ≡ record { state = m1; end = end_of end } → m1.turns ≡ m.turns → Ran (exec n env (step t up)) m o m1 o (Ok end)
    step_runs t up end run turns = ran_quietly (exec n env (step t up)) m m1 o end (λ lines k. set_full env.defines m lines k t (if up then Add else Sub) (num 1 Int) ∙ ap (run_full env.defines m lines k) run) turns

    pub input_runs : (t : Target) (end : End) → take_input env.defines t m ≡ record { state = m1; end = end_of end } → m1.turns ≡ m.turns → Ran (exec n env (input t)) m o m1 o (Ok end)
    input_runs t end run turns = ran_quietly (exec n env (input t)) m m1 o end (λ lines k. input_full env.defines m lines k t ∙ ap (run_full env.defines m lines k) run) turns

  -- ---- blocks and parts of heads

  module _ (xs ys : List tree.Stmt) (same : xs ≡ ys) (m m1 : State) (o o1 : Sunk) where
    pub block_runs : (m2 : State) (len : ℕ) → len ≡ length m.frame → m2 ≡ with_frame (keep len m1.frame) m1 → (e : End) → Ran (exec_all n env (numbered_stmts xs)) m o m1 o1 (Ok e) → Ran (in_block (exec_all n env (numbered_stmts ys))) m o m2 o1 (Ok e)
    block_runs m2 len long is e r =
        subst (λ zs. Ran (in_block (exec_all n env (numbered_stmts zs))) m o m2 o1 (Ok e)) same (left_ends (exec_all n env (numbered_stmts xs)) m m1 m2 o o1 len long is e r)

    pub block_faults : (x : RunFault) → Ran (exec_all n env (numbered_stmts xs)) m o m1 o1 (Err x) → Ran (in_block (exec_all n env (numbered_stmts ys))) m o m1 o1 (Err x)
    block_faults x r = subst (λ zs. Ran (in_block (exec_all n env (numbered_stmts zs))) m o m1 o1 (Err x)) same (block_fails (exec_all n env (numbered_stmts xs)) m m1 o o1 m1 x r)

  abbrev part : Option tree.Stmt → Meaning
  part a = exec_maybe n env (maybe_stmt (option_map numbered_stmt a))

  pub part_skips : (a : Option tree.Stmt) (m : State) (o : Sunk) → a ≡ None → Ran (part a) m o m o (Ok Next)
  part_skips a m o is = subst (λ b. Ran (part b) m o m o (Ok Next)) (sym is) (ran_ends m o Next)

  pub part_runs : (a : Option tree.Stmt) (b : tree.Stmt) (m m1 : State) (o o1 : Sunk) (r : Result End RunFault) → a ≡ Some b → Ran (exec n env (numbered_stmt b)) m o m1 o1 r → Ran (part a) m o m1 o1 r
  part_runs a b m m1 o o1 r is ran = subst (λ b. Ran (part b) m o m1 o1 r) (sym is) ran

  -- ---- if

  module _ (e : Expr) (a : Stmts) (b : Option Stmts) (m m1 : State) (o o1 : Sunk) where
    asks_holds : Asks (holds_in env.defines e)
    asks_holds s lines turns = holds_full env.defines s lines turns e

    abbrev other : Option Stmts → Meaning
    other None = ends runs.Next
    other (Some c) = in_block (exec_all n env c)

    if_is : (c : Option Stmts) (s : State) → exec n env (if_of e a c) s ≡ runs.ask (holds_in env.defines e s) (in_block (exec_all n env a)) (other c) s
    if_is None s = refl
    if_is (Some c) s = refl

    as_if : (r : Result End RunFault) (u : State) (o2 : Sunk) → (c : Option Stmts) → Ran (λ s. runs.ask (holds_in env.defines e s) (in_block (exec_all n env a)) (other c) s) m o u o2 r → Ran (exec n env (if_of e a c)) m o u o2 r
    as_if r u o2 None ran = ran
    as_if r u o2 (Some c) ran = ran

    pub if_traps : (t : Trap) → Err t ≡ holds_in env.defines e m → Ran (exec n env (if_of e a b)) m o m o (Ok (Trapped t))
    if_traps t is = as_if (Ok (Trapped t)) m o b (test_traps (holds_in env.defines e) asks_holds (in_block (exec_all n env a)) (other b) m o t (sym is))

    pub if_holds : (r : Result End RunFault) → Ok true ≡ holds_in env.defines e m → Ran (in_block (exec_all n env a)) m o m1 o1 r → Ran (exec n env (if_of e a b)) m o m1 o1 r
    if_holds r is ran = as_if r m1 o1 b ((test_holds (holds_in env.defines e) asks_holds (in_block (exec_all n env a)) (other b) m o (sym is)).follows m1 o1 r ran)

    pub if_fails : (r : Result End RunFault) → Ok false ≡ holds_in env.defines e m → Ran (other b) m o m1 o1 r → Ran (exec n env (if_of e a b)) m o m1 o1 r
    if_fails r is ran = as_if r m1 o1 b ((test_fails (holds_in env.defines e) asks_holds (in_block (exec_all n env a)) (other b) m o (sym is)).follows m1 o1 r ran)

    pub else_runs : (r : Result End RunFault) (c : Stmts) → b ≡ Some c → Ok false ≡ holds_in env.defines e m → Ran (in_block (exec_all n env c)) m o m1 o1 r → Ran (exec n env (if_of e a b)) m o m1 o1 r
    else_runs r c is test ran = if_fails r test (subst (λ d. Ran (other d) m o m1 o1 r) (sym is) ran)

    pub no_else : b ≡ None → Ok false ≡ holds_in env.defines e m → Ran (other b) m o m o (Ok Next)
    no_else is test = subst (λ d. Ran (other d) m o m o (Ok Next)) (sym is) (ran_ends m o Next)

  pub if_skips : (e : Expr) (a : Stmts) (b : Option Stmts) (m : State) (o : Sunk) → b ≡ None → Ok false ≡ holds_in env.defines e m → Ran (exec n env (if_of e a b)) m o m o (Ok Next)
  if_skips e a b m o is test = if_fails e a b m m o o (Ok Next) test (no_else e a b m m o o is test)

  -- ---- loops

  module _ (e : Expr) (a : Stmts) (m m1 : State) (o o1 : Sunk) where
    abbrev uncounted : Meaning
    uncounted = counted_turn false (exec_all n env a) (exec_maybe n env no_stmt)

    pub while_ends : (end end' : End) → end_of end' ≡ loop_end (end_of end) → Ran (repeat n (head_test env.defines (Some e)) uncounted) m o m1 o1 (Ok end) → Ran (exec n env (while_ e a)) m o m1 o1 (Ok end')
    while_ends end end' is ran = end_ends (repeat n (head_test env.defines (Some e)) uncounted) m m1 o o1 loop_end end end' is ran

    pub while_fails : (x : RunFault) → Ran (repeat n (head_test env.defines (Some e)) uncounted) m o m1 o1 (Err x) → Ran (exec n env (while_ e a)) m o m1 o1 (Err x)
    while_fails x ran = end_fails (repeat n (head_test env.defines (Some e)) uncounted) m m1 o o1 loop_end m1 x ran

    pub do_ends : (end end' : End) → end_of end' ≡ loop_end (end_of end) → Ran (repeat_after n (head_test env.defines (Some e)) uncounted) m o m1 o1 (Ok end) → Ran (exec n env (do_ a e)) m o m1 o1 (Ok end')
    do_ends end end' is ran = end_ends (repeat_after n (head_test env.defines (Some e)) uncounted) m m1 o o1 loop_end end end' is ran

    pub do_fails : (x : RunFault) → Ran (repeat_after n (head_test env.defines (Some e)) uncounted) m o m1 o1 (Err x) → Ran (exec n env (do_ a e)) m o m1 o1 (Err x)
    do_fails x ran = end_fails (repeat_after n (head_test env.defines (Some e)) uncounted) m m1 o o1 loop_end m1 x ran

  module _ (i : MaybeStmt) (l : Loop) where
    abbrev turns_of : Meaning
    turns_of = repeat n (head_test env.defines (test_of l)) (turn_in n env l)

    abbrev loop_of : Meaning
    loop_of = while_loop n (head_test env.defines (test_of l)) (turn_in n env l)

    loop_grows : Grows loop_of
    loop_grows = repeat_keeps MoreLines lines_grow n (head_test env.defines (test_of l)) (turn_in n env l) (turn_grows n p l.counts (numbered_stmts l.body.now) (next_of l))

    module _ (m m1 m2 : State) (o o1 o2 : Sunk) where
      pub head_goes : Ran (exec_maybe n env i) m o m1 o1 (Ok Next) → (end end' : End) → end_of end' ≡ loop_end (end_of end) → Ran turns_of m1 o1 m2 o2 (Ok end) → Ran (head_run n env i l) m o m2 o2 (Ok end')
      head_goes begun end end' is ran = (then_goes (exec_maybe n env i) loop_of m m1 o o1 begun).follows m2 o2 (Ok end') (end_ends turns_of m1 m2 o1 o2 loop_end end end' is ran)

      pub head_goes_on : Ran (exec_maybe n env i) m o m1 o1 (Ok Next) → (x : RunFault) → Ran turns_of m1 o1 m2 o2 (Err x) → Ran (head_run n env i l) m o m2 o2 (Err x)
      head_goes_on begun x ran = (then_goes (exec_maybe n env i) loop_of m m1 o o1 begun).follows m2 o2 (Err x) (end_fails turns_of m1 m2 o1 o2 loop_end m2 x ran)

    module _ (m m1 : State) (o o1 : Sunk) where
      pub head_stops : (end : End) → end ≢ Next → Ran (exec_maybe n env i) m o m1 o1 (Ok end) → Ran (head_run n env i l) m o m1 o1 (Ok end)
      head_stops end not begun = then_stops (exec_maybe n env i) loop_of m m1 o o1 end not begun

      pub head_fails : (x : RunFault) → Ran (exec_maybe n env i) m o m1 o1 (Err x) → Ran (head_run n env i l) m o m1 o1 (Err x)
      head_fails x begun = then_fails (exec_maybe n env i) loop_of m m1 o o1 loop_grows m1 x begun

      pub for_runs : (h : Head) → h ≡ head i (test_of l) (next_of l) → l.counts ≡ true → (r : Result End RunFault) → Ran (in_block (head_run n env i l)) m o m1 o1 r → Ran (exec n env (for_ h (numbered_stmts l.body.now))) m o m1 o1 r
      for_runs h is counts r ran =
          run_as (for_ h (numbered_stmts l.body.now)) (for_ (head i (test_of l) (next_of l)) (numbered_stmts l.body.now)) m m1 o o1 r (ap (λ k. for_ k (numbered_stmts l.body.now)) is)
          (subst (λ b. Ran (in_block (λ s. runs.then_do (exec_maybe n env i s) (while_loop n (head_test env.defines (test_of l)) (counted_turn b (exec_all n env (numbered_stmts l.body.now)) (exec_maybe n env (next_of l)))))) m o m1 o1 r) counts ran)

  -- ---- calls

  module _ (x : Name) (es : Exprs) (m : State) (o : Sunk) where
    call_as : (f : Option Function) (u : State) (o1 : Sunk) (r : Result End RunFault) → function_named x env.functions ≡ f → Ran (call_of f env.defines es) m o u o1 r → Ran (exec n env (call x es)) m o u o1 r
    call_as f u o1 r is ran = subst (λ g. Ran (call_of g env.defines es) m o u o1 r) (sym is) ran

    pub call_unknown : function_named x env.functions ≡ None → Ran (exec n env (call x es)) m o m o (Ok (Trapped Unset))
    call_unknown is = call_as None m o (Ok (Trapped Unset)) is (ran_ends m o (Trapped Unset))

    module _ (f : Function) (is : function_named x env.functions ≡ Some f) where
      abbrev framed : State → Result (List Var) Trap
      framed s = arguments env.defines s f.params es []

      asks_framed : Asks framed
      asks_framed s lines turns = arguments_full env.defines s lines turns f.params es []

      abbrev entered : List Var → Meaning
      entered vs = in_frame vs f.run

      stops : (stop : Stop) → Stops stop (framed m) → Ran (exec n env (call x es)) m o m o (stopped_as stop)
      stops (stop.Trap t) args = call_as (Some f) m o (Ok (Trapped t)) is (value_traps framed asks_framed entered m o t args)
      stops stop.Memory args = ran_memory (exec n env (call x es)) m m o (stmt_grows n p (call x es))

      -- the call begins in this state too
      module _ (begun : State) (same : begun ≡ m) where
        pub call_stops : (stop : Stop) → Stops stop (framed begun) → Ran (exec n env (call x es)) m o begun o (stopped_as stop)
        call_stops stop args = subst (λ u. Ran (exec n env (call x es)) m o u o (stopped_as stop)) (sym same) (stops stop (subst (λ u. Stops stop (framed u)) same args))

        module _ (vs : List Var) (args : framed begun ≡ Ok vs) (m0 m1 : State) (o1 : Sunk) (entry : m0 ≡ with_frame vs begun) where
          in_it : m0 ≡ with_frame vs m
          in_it = entry ∙ ap (with_frame vs) same

          entering : (r : Result End RunFault) (u : State) → Ran (in_frame vs f.run) m o u o1 r → Ran (exec n env (call x es)) m o u o1 r
          entering r u ran = call_as (Some f) u o1 r is ((value_goes framed asks_framed entered m o vs (subst (λ u. framed u ≡ Ok vs) same args)).follows u o1 r ran)

          pub call_ends : (m2 : State) (caller : List Var) → m2 ≡ with_frame caller m1 → caller ≡ begun.frame → (end end' : End) → end_of end' ≡ call_end (end_of end) → Ran f.run m0 o m1 o1 (Ok end) → Ran (exec n env (call x es)) m o m2 o1 (Ok end')
          call_ends m2 caller back was end end' so ran =
              entering (Ok end') m2 (subst (λ u. Ran (in_frame vs f.run) m o u o1 (Ok end')) (sym (back ∙ ap (λ c. with_frame c m1) (was ∙ ap (λ (u : State). u.frame) same)))
              (frame_ends f.run vs m m1 o o1 end end' so (subst (λ u. Ran f.run u o m1 o1 (Ok end)) in_it ran)))

          pub call_fails : (x' : RunFault) → Ran f.run m0 o m1 o1 (Err x') → Ran (exec n env (call x es)) m o m1 o1 (Err x')
          call_fails x' ran = entering (Err x') m1 (frame_fails f.run vs m m1 o o1 m1 x' (subst (λ u. Ran f.run u o m1 o1 (Err x')) in_it ran))
