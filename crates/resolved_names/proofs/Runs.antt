-- Statements under a renaming: what a renamed one does to a renamed state is what the other does, renamed.
use Rattle.std.proofs.Common.{◌≡◌, refl, ap, ◌∙◌, sym, subst, ℕ, zero, suc, ◌-◌, List, [], ◌∷◌, map, length, Option, Some, None, Result, Ok, Err, Bool, true, false, bytes_eq}
use Rattle.std.specs.Prelude.{if◌then◌else◌}
use Rattle.std.specs.Option.{option_map}
use Rattle.std.proofs.lemmas.List.{length-map, drop-map}
use Rattle.c_tree.specs.Bare.{Name, Expr, num, Exprs, no_exprs, more_exprs, Target, target, Stmt, decl, set, step, print, input, if_, if_else, while_, do_, for_, block, break_, continue_, empty, omp, call, Stmts, no_stmts, more_stmts, MaybeStmt, no_stmt, a_stmt, head, Param}
use Rattle.c_tree.specs.declared.tree.Ty.{Ty}
use Rattle.c_tree.specs.declared.tree.Ty.TheVariants.{Int, Long}
use Rattle.c_tree.specs.declared.tree.SetOp.{SetOp}
use Rattle.c_tree.specs.declared.tree.SetOp.TheVariants.{Add, Sub}
use Rattle.c_tree.specs.declared.arithmetic.Trap.{Trap}
use Rattle.c_tree.specs.Arithmetic.{and_then, convert}
use Rattle.c_semantics.specs.Meaning.State.{scalar, Var, State, look, push, keep, count_turn, with_frame}
use Rattle.c_semantics.specs.Meaning.Expressions.{Define, type_of, eval, dims_of}
use Rattle.c_semantics.specs.Meaning.Runs.{End, Next, Break, Continue, Trapped, Cut, Run, Meaning, ends, on_next, then_do, with_value, leave, in_block, turn_end, loop_end, with_end, ask, repeat, repeat_after, turn_of, for_turn, while_loop}
use Rattle.c_semantics.specs.Meaning.SimpleStatements.{holds_in, head_test, declared, changed, type_in, new_value, target_place, set_to, print_value, next_input, rest_of, take_input, Function, Env, function_named, arguments, call_end, in_frame, call_of}
use Rattle.c_semantics.specs.Meaning.Statements.{exec, exec_all, exec_maybe}
use Rattle.resolved_names.specs.Renaming.{Renaming, renamed_expr, renamed_exprs, renamed_target, renamed_stmt, renamed_stmts, renamed_part, renamed_param, PlainStmt, PlainStmts, PlainPart}
use Rattle.resolved_names.specs.RenamedRuns.{renamed_var, renamed_vars, renamed_state, renamed_run, Injective}
use Rattle.resolved_names.proofs.Values.{renamed_define, look_same, store_renamed, type_same, eval_same, place_same}

module _ (f : Renaming) (same : Injective f) where
  -- ---- the ways to put meanings together

  abbrev pub Follows : Meaning → Meaning → Type 0
  Follows g h = (s : State) → h (renamed_state f s) ≡ renamed_run f (g s)

  pub next_follows : (e : End) (s : State) (g h : Meaning) → Follows g h → on_next e (renamed_state f s) h ≡ renamed_run f (on_next e s g)
  next_follows Next s g h k = k s
  next_follows Break s g h k = refl
  next_follows Continue s g h k = refl
  next_follows (Trapped t) s g h k = refl
  next_follows Cut s g h k = refl

  pub then_follows : (r r' : Run) (g h : Meaning) → r' ≡ renamed_run f r → Follows g h → then_do r' h ≡ renamed_run f (then_do r g)
  then_follows r r' g h e k = ap (λ q. then_do q h) e ∙ next_follows r.end r.state g h k

  pub value_follows : {A : Type 0} (o : Result A Trap) (s : State) (g h : A → Run) → ((a : A) → h a ≡ renamed_run f (g a)) → with_value o (renamed_state f s) h ≡ renamed_run f (with_value o s g)
  value_follows (Err t) s g h k = refl
  value_follows (Ok a) s g h k = k a

  pub ask_follows : (o : Result Bool Trap) (g g' h h' : Meaning) (s : State) → g' (renamed_state f s) ≡ renamed_run f (g s) → h' (renamed_state f s) ≡ renamed_run f (h s) → ask o g' h' (renamed_state f s) ≡ renamed_run f (ask o g h s)
  ask_follows (Err t) g g' h h' s k l = refl
  ask_follows (Ok true) g g' h h' s k l = k
  ask_follows (Ok false) g g' h h' s k l = l

  kept_renamed : (m n : ℕ) (vs ws : List Var) → keep (length (renamed_vars f vs)) (renamed_vars f ws) ≡ renamed_vars f (keep (length vs) ws)
  kept_renamed m n vs ws = rw (length-map vs (renamed_var f), length-map ws (renamed_var f)) (drop-map (renamed_var f) (length ws - length vs) ws)

  left_renamed : (s : State) (r : Run) → leave (renamed_state f s) (renamed_run f r) ≡ renamed_run f (leave s r)
  left_renamed s r =
      let put : List Var → Run = λ vs. record { state = with_frame vs (renamed_state f r.state); end = r.end } in
      ap put (kept_renamed 0 0 s.frame r.state.frame)

  pub leave_follows : (s : State) (r r' : Run) → r' ≡ renamed_run f r → leave (renamed_state f s) r' ≡ renamed_run f (leave s r)
  leave_follows s r r' e = ap (leave (renamed_state f s)) e ∙ left_renamed s r

  pub block_follows : (g h : Meaning) → Follows g h → Follows (in_block g) (in_block h)
  block_follows g h k s = leave_follows s (g s) (h (renamed_state f s)) (k s)

  end_follows : (on : End → End) (r r' : Run) → r' ≡ renamed_run f r → with_end on r' ≡ renamed_run f (with_end on r)
  end_follows on r r' e = ap (with_end on) e

  pub turn_follows : (g h : Meaning) → Follows g h → Follows (turn_of g) (turn_of h)
  turn_follows g h k s = end_follows turn_end (in_block g s) (in_block h (renamed_state f s)) (block_follows g h k s)

  pub for_turn_follows : (g h u v : Meaning) → Follows g h → Follows u v → Follows (for_turn g u) (for_turn h v)
  for_turn_follows g h u v k l s =
      then_follows (turn_of g (count_turn s)) (turn_of h (count_turn (renamed_state f s))) u v (turn_follows g h k (count_turn s)) l

  abbrev Test : Type 0
  Test = State → Result Bool Trap

  abbrev pub Asks : Test → Test → Type 0
  Asks a b = (s : State) → b (renamed_state f s) ≡ a s

  pub repeat_follows : (k : ℕ) (a b : Test) → Asks a b → (g h : Meaning) → Follows g h → Follows (repeat k a g) (repeat k b h)
  repeat_follows zero a b q g h l s = rw (q s) (ask_follows (a s) (ends Cut) (ends Cut) (ends Next) (ends Next) s refl refl)
  repeat_follows (suc k) a b q g h l s =
      rw (q s)
      (ask_follows (a s) (λ u. then_do (g u) (repeat k a g)) (λ u. then_do (h u) (repeat k b h)) (ends Next) (ends Next) s
      (then_follows (g s) (h (renamed_state f s)) (repeat k a g) (repeat k b h) (l s) (repeat_follows k a b q g h l)) refl)

  pub repeat_after_follows : (k : ℕ) (a b : Test) → Asks a b → (g h : Meaning) → Follows g h → Follows (repeat_after k a g) (repeat_after k b h)
  repeat_after_follows zero a b q g h l s = refl
  repeat_after_follows (suc k) a b q g h l s = then_follows (g s) (h (renamed_state f s)) (repeat k a g) (repeat k b h) (l s) (repeat_follows k a b q g h l)

  -- ---- functions

  -- a call of one follows a call of the other
  abbrev pub Called : Option Function → Option Function → Type 0
  Called None None = Unit {0}
  Called (Some g) (Some h) = (h.params ≡ map (renamed_param f) g.params) × Follows g.run h.run
  Called _ _ = ⊥

  abbrev pub Functions : List Function → List Function → Type 0
  Functions [] [] = Unit {0}
  Functions (g ∷ gs) (h ∷ hs) = (h.name ≡ f g.name) × Called (Some g) (Some h) × Functions gs hs
  Functions _ _ = ⊥

  pub named_called : (x : Name) (gs hs : List Function) → Functions gs hs → Called (function_named x gs) (function_named (f x) hs)
  named_called x [] [] k = tt
  named_called x [] (h ∷ hs) k = absurd k
  named_called x (g ∷ gs) [] k = absurd k
  named_called x (g ∷ gs) (h ∷ hs) k =
      let At : Bool → Type 0 = λ b. Called (if bytes_eq x g.name then Some g else function_named x gs) (if b then Some h else function_named (f x) hs) in
      subst (λ y. At (bytes_eq (f x) y)) (sym k.0)
      (subst At (sym (same x g.name)) (by (named_called x gs hs k.2) (bytes_eq x g.name)))
    where
      by : Called (function_named x gs) (function_named (f x) hs) → (b : Bool) → Called (if b then Some g else function_named x gs) (if b then Some h else function_named (f x) hs)
      by rest true = k.1
      by rest false = rest

  -- ---- statements without parts of their own

  module _ (ds : List Define) where
    abbrev ds' : List Define
    ds' = map (renamed_define f) ds

    pub holds_same : (e : Expr) → Asks (holds_in ds e) (holds_in ds' (renamed_expr f e))
    holds_same e s = rw (eval_same f same ds s e) refl

    pub test_same : (e : Option Expr) → Asks (head_test ds e) (head_test ds' (option_map (renamed_expr f) e))
    test_same None s = refl
    test_same (Some e) s = holds_same e s

    pub declared_follows : (t : Ty) (x : Name) (e : Option Expr) → Follows (declared ds t x e) (declared ds' t (f x) (option_map (renamed_expr f) e))
    declared_follows t x None s = refl
    declared_follows t x (Some e) s =
        let u = push x (scalar t None) s in
        rw (eval_same f same ds u e) (value_follows (and_then (eval ds u e) (convert t)) u _ _ (λ z. refl))

    pub set_follows : (w : Target) (o : SetOp) (e : Expr) → Follows (set_to ds w o e) (set_to ds' (renamed_target f w) o (renamed_expr f e))
    set_follows (target x es) o e s =
        rw (look_same f same x s, place_same f same ds s es (dims_of (look s x)) 0, type_same f same ds s e, eval_same f same ds s e)
        (value_follows (target_place ds s (look s x) es) s _ _ (λ k.
        value_follows (and_then (new_value o (look s x) k (type_of ds s e) (eval ds s e)) (convert (type_in (look s x)))) s _ _ (λ z.
        ap (ends Next) (store_renamed f same x (changed (look s x) k z) s))))

    pub print_follows : (e : Expr) → Follows (print_value ds e) (print_value ds' (renamed_expr f e))
    print_follows e s = rw (eval_same f same ds s e) (value_follows (and_then (eval ds s e) (convert Long)) s _ _ (λ z. refl))

    pub input_follows : (w : Target) → Follows (take_input ds w) (take_input ds' (renamed_target f w))
    input_follows (target x es) s =
        rw (look_same f same x s, place_same f same ds s es (dims_of (look s x)) 0)
        (value_follows (target_place ds s (look s x) es) s _ _ (λ k.
        value_follows (next_input s.input) s _ _ (λ z.
        let u : State = record s { input = rest_of s.input } in
        value_follows (convert (type_in (look s x)) z) u _ _ (λ y.
        ap (ends Next) (store_renamed f same x (changed (look s x) k y) u)))))

    -- the frame of the arguments, renamed
    abbrev frame_renamed : Result (List Var) Trap → Result (List Var) Trap
    frame_renamed o = and_then o (λ vs. Ok (renamed_vars f vs))

    frames_same : {A : Type 0} (o : Result A Trap) (g h : A → Result (List Var) Trap) → ((a : A) → h a ≡ frame_renamed (g a)) → and_then o h ≡ frame_renamed (and_then o g)
    frames_same (Err t) g h k = refl
    frames_same (Ok a) g h k = k a

    arguments_same : (s : State) (ps : List Param) (es : Exprs) (vs : List Var) → arguments ds' (renamed_state f s) (map (renamed_param f) ps) (renamed_exprs f es) (renamed_vars f vs) ≡ frame_renamed (arguments ds s ps es vs)
    arguments_same s [] es vs = refl
    arguments_same s (p ∷ ps) no_exprs vs = arguments_same s ps no_exprs (record { name = p.name; cell = scalar p.ty None } ∷ vs)
    arguments_same s (p ∷ ps) (more_exprs e es) vs =
        rw (eval_same f same ds s e)
        (frames_same (eval ds s e) _ _ (λ z. frames_same (convert p.ty z) _ _ (λ y. arguments_same s ps es (record { name = p.name; cell = scalar p.ty (Some y) } ∷ vs))))

    framed : (g h : Meaning) → Follows g h → (vs : List Var) → Follows (in_frame vs g) (in_frame (renamed_vars f vs) h)
    framed g h k vs s =
        let put : Run → Run = λ r. record { state = with_frame (renamed_vars f s.frame) r.state; end = call_end r.end } in
        ap put (k (with_frame vs s))

    pub call_follows : (g h : Option Function) → Called g h → (es : Exprs) → Follows (call_of g ds es) (call_of h ds' (renamed_exprs f es))
    call_follows None None k es s = refl
    call_follows None (Some h) k es s = absurd k
    call_follows (Some g) None k es s = absurd k
    call_follows (Some g) (Some h) k es s = rw (k.0, arguments_same s g.params es []) (by (arguments ds s g.params es []))
      where
        by : (o : Result (List Var) Trap) → with_value (frame_renamed o) (renamed_state f s) (λ vs. in_frame vs h.run (renamed_state f s)) ≡ renamed_run f (with_value o s (λ vs. in_frame vs g.run s))
        by (Err t) = refl
        by (Ok vs) = framed g.run h.run k.1 vs s

  -- ---- statements

  module _ (n : ℕ) (ds : List Define) (gs hs : List Function) (k : Functions gs hs) where
    abbrev env : Env
    env = record { defines = ds; functions = gs }

    abbrev env' : Env
    env' = record { defines = map (renamed_define f) ds; functions = hs }

    -- what statements do before, and what renamed ones do
    abbrev before : Stmts → Meaning
    before a = exec_all n env a

    abbrev after : Stmts → Meaning
    after a = exec_all n env' (renamed_stmts f a)

    abbrev part : MaybeStmt → Meaning
    part a = exec_maybe n env a

    abbrev part' : MaybeStmt → Meaning
    part' a = exec_maybe n env' (renamed_part f a)

    mutual
      pub exec_follows : (a : Stmt) → PlainStmt a → Follows (exec n env a) (exec n env' (renamed_stmt f a))
      exec_follows (decl t x e) p s = declared_follows ds t x e s
      exec_follows (set t o e) p s = set_follows ds t o e s
      exec_follows (step t up) p s = set_follows ds t (if up then Add else Sub) (num 1 Int) s
      exec_follows (print e) p s = print_follows ds e s
      exec_follows (input t) p s = input_follows ds t s
      exec_follows (if_ e a) p s =
          rw (holds_same ds e s)
          (ask_follows (holds_in ds e s) (in_block (before a)) (in_block (after a)) (ends Next) (ends Next) s
          (block_follows (before a) (after a) (all_follow a p) s) refl)
      exec_follows (if_else e a b) p s =
          rw (holds_same ds e s)
          (ask_follows (holds_in ds e s) (in_block (before a)) (in_block (after a)) (in_block (before b)) (in_block (after b)) s
          (block_follows (before a) (after a) (all_follow a p.0) s) (block_follows (before b) (after b) (all_follow b p.1) s))
      exec_follows (while_ e a) p s =
          let test : Test = holds_in ds e in
          let test' : Test = holds_in (map (renamed_define f) ds) (renamed_expr f e) in
          end_follows loop_end (repeat n test (turn_of (before a)) s) (repeat n test' (turn_of (after a)) (renamed_state f s))
          (repeat_follows n test test' (holds_same ds e) (turn_of (before a)) (turn_of (after a)) (turn_follows (before a) (after a) (all_follow a p)) s)
      exec_follows (do_ a e) p s =
          let test : Test = holds_in ds e in
          let test' : Test = holds_in (map (renamed_define f) ds) (renamed_expr f e) in
          end_follows loop_end (repeat_after n test (turn_of (before a)) s) (repeat_after n test' (turn_of (after a)) (renamed_state f s))
          (repeat_after_follows n test test' (holds_same ds e) (turn_of (before a)) (turn_of (after a)) (turn_follows (before a) (after a) (all_follow a p)) s)
      exec_follows (for_ (head i e next) a) p s =
          let test : Test = head_test ds e in
          let test' : Test = head_test (map (renamed_define f) ds) (option_map (renamed_expr f) e) in
          let turn : Meaning = for_turn (before a) (part next) in
          let turn' : Meaning = for_turn (after a) (part' next) in
          let turns : Follows turn turn' = for_turn_follows (before a) (after a) (part next) (part' next) (all_follow a p.2) (part_follows next p.1) in
          leave_follows s (then_do (part i s) (while_loop n test turn)) (then_do (part' i (renamed_state f s)) (while_loop n test' turn'))
          (then_follows (part i s) (part' i (renamed_state f s)) (while_loop n test turn) (while_loop n test' turn') (part_follows i p.0 s)
          (λ u. end_follows loop_end (repeat n test turn u) (repeat n test' turn' (renamed_state f u)) (repeat_follows n test test' (test_same ds e) turn turn' turns u)))
      exec_follows (block a) p s = block_follows (before a) (after a) (all_follow a p) s
      exec_follows break_ p s = refl
      exec_follows continue_ p s = refl
      exec_follows empty p s = refl
      exec_follows (omp d a) p s = absurd p
      exec_follows (call x es) p s = call_follows ds (function_named x gs) (function_named (f x) hs) (named_called x gs hs k) es s

      pub all_follow : (a : Stmts) → PlainStmts a → Follows (exec_all n env a) (exec_all n env' (renamed_stmts f a))
      all_follow no_stmts p s = refl
      all_follow (more_stmts a as') p s =
          then_follows (exec n env a s) (exec n env' (renamed_stmt f a) (renamed_state f s)) (exec_all n env as') (exec_all n env' (renamed_stmts f as'))
          (exec_follows a p.0 s) (all_follow as' p.1)

      pub part_follows : (a : MaybeStmt) → PlainPart a → Follows (exec_maybe n env a) (exec_maybe n env' (renamed_part f a))
      part_follows no_stmt p s = refl
      part_follows (a_stmt a) p s = exec_follows a p s
