-- Two runs from related states stay related, where the names that are used look alike in both and every step keeps the
-- relation, in the scope where it is taken.
use Rattle.std.proofs.Common.{◌≡◌, refl, sym, ap, ◌∙◌, subst, ℕ, zero, suc, List, [], ◌∷◌, ◌++◌, length, Option, Some, None, Result, Ok, Err, Bool, true, false, ℤ, slice_get}
use Rattle.std.specs.Prelude.{if◌then◌else◌}
use Rattle.c_tree.specs.Bare.{Name, Expr, num, Exprs, no_exprs, more_exprs, Target, target, Stmt, decl, set, step, print, input, if_, if_else, while_, do_, for_, block, break_, continue_, empty, omp, call, Stmts, no_stmts, more_stmts, head, MaybeStmt, no_stmt, a_stmt, Param}
use Rattle.c_tree.specs.declared.tree.Ty.{Ty}
use Rattle.c_tree.specs.declared.tree.Ty.TheVariants.{Int, Long}
use Rattle.c_tree.specs.declared.tree.SetOp.{SetOp}
use Rattle.c_tree.specs.declared.tree.SetOp.TheVariants.{Add, Sub}
use Rattle.c_semantics.specs.Meaning.State.{Cell, scalar, Var, State, look, store, push, keep, print_line, count_turn, with_frame}
use Rattle.c_tree.specs.declared.arithmetic.Trap.{Trap}
use Rattle.c_tree.specs.Arithmetic.{and_then, convert}
use Rattle.c_semantics.specs.Meaning.Expressions.{Define, eval}
use Rattle.c_semantics.specs.Meaning.Runs.{End, Next, Break, Continue, Trapped, Cut, Run, Meaning, ends, on_next, then_do, with_value, leave, in_block, turn_end, loop_end, with_end, ask, repeat, repeat_after, turn_of, for_turn, while_loop}
use Rattle.c_semantics.specs.Meaning.SimpleStatements.{holds_in, head_test, changed, type_in, set_to, next_input, rest_of, take_input, Function, Env, function_named, arguments, in_frame, call_of}
use Rattle.c_semantics.specs.Meaning.Statements.{exec, exec_all, exec_maybe, bodies_of, bodies_all}
use Rattle.c_semantics.specs.Loops.CanonicalForm.{Canonical, test, canonical}
use Rattle.c_semantics.specs.Loops.IterationTrees.{Tree, body, do_all, loop, Trees, no_trees, more_trees, of_list}
use Rattle.c_semantics.specs.Loops.Directives.{plan_of}
use Rattle.c_semantics.specs.Loops.Need.{loops_asked}
use Rattle.c_semantics.specs.Loops.Execution.{Body, push_copies, run_body, run_tree, run_all, run_turns, loop_var}
use Rattle.c_semantics.specs.Laws.Names.{Names, NamesEach, NamesIf, NamesIn}
use Rattle.c_semantics.specs.Laws.Apart.{Alike, RunsAlike}
use Rattle.c_semantics.specs.Meaning.FileVariables.{scope_after, scope_in, scope_with, param_names}
use Rattle.c_semantics.proofs.Invariant.{Keeps, then_keeps, repeat_keeps, turn_keeps, copies_keep, list_keeps, maybe_keeps}
use Rattle.c_semantics.proofs.FrameNames.{SameNames, names_kept, function_names}
use Rattle.c_semantics.proofs.ScopeNames.{HoldsNames, HoldsParams, arguments_hold, copied, copied-loop_var}
use Rattle.c_semantics.proofs.Evals.{value_same, type_same, eval_same, place_same}
use Rattle.c_semantics.proofs.Touches.{LoopNames, Touches, TouchesAll, TouchesIf, TouchesNest, TouchesNests}
use Rattle.c_semantics.proofs.Entries.{loop_type_same, forest_same}

-- a relation, in a scope, that every step keeps; P says which names look alike in it
pub record Simulation (Sim : List Name → State → State → Type 0) (P : List Name → Name → Type 0) : Type 0 where
  pub looks : (h : List Name) (s t : State) → Sim h s t → (x : Name) → P h x → look t x ≡ look s x
  pub inputs : (h : List Name) (s t : State) → Sim h s t → t.input ≡ s.input
  pub stored : (h : List Name) (x : Name) (c : Cell) → P h x → (s t : State) → Sim h s t → Sim h (store x c s) (store x c t)
  pub pushed : (h : List Name) (x : Name) (c : Cell) (s t : State) → Sim h s t → Sim (x ∷ h) (push x c s) (push x c t)
  pub outer : (h : List Name) (x : Name) (s t : State) → Sim (x ∷ h) s t → Sim h s t
  pub said : (h : List Name) (z : ℤ) (s t : State) → Sim h s t → Sim h (print_line z s) (print_line z t)
  pub ticked : (h : List Name) (s t : State) → Sim h s t → Sim h (count_turn s) (count_turn t)
  pub taken : (h : List Name) (s t : State) → Sim h s t → Sim h (record s { input = rest_of s.input }) (record t { input = rest_of t.input })
  pub left : (h : List Name) (s t u w : State) → Sim h s t → Sim h u w → SameNames s u → Sim h (with_frame (keep (length s.frame) u.frame) u) (with_frame (keep (length t.frame) w.frame) w)

-- a meaning that keeps the names of the frame
abbrev pub KeepsNames : Meaning → Type 0
KeepsNames f = Keeps SameNames names_kept f

module _ (Sim : List Name → State → State → Type 0) (P : List Name → Name → Type 0) (sim : Simulation Sim P) where
  -- ---- the ways to put meanings together, in a scope

  weaker : (h : List Name) (x : Name) (r r' : Run) → RunsAlike (Sim (x ∷ h)) r r' → RunsAlike (Sim h) r r'
  weaker h x r r' a = (sim.outer h x r.state r'.state a.0, a.1)

  module _ (h : List Name) where
    next_alike : (e : End) (s t : State) (f g : Meaning) → Sim h s t → Alike (Sim h) f g → RunsAlike (Sim h) (on_next e s f) (on_next e t g)
    next_alike Next s t f g p k = k s t p
    next_alike Break s t f g p k = (p, refl)
    next_alike Continue s t f g p k = (p, refl)
    next_alike (Trapped x) s t f g p k = (p, refl)
    next_alike Cut s t f g p k = (p, refl)

    then_alike : (r r' : Run) (f g : Meaning) → RunsAlike (Sim h) r r' → Alike (Sim h) f g → RunsAlike (Sim h) (then_do r f) (then_do r' g)
    then_alike r r' f g a k = subst (λ e. RunsAlike (Sim h) (then_do r f) (on_next e r'.state g)) (sym a.1) (next_alike r.end r.state r'.state f g a.0 k)

    value_alike : {A : Type 0} (o o' : Result A Trap) → o' ≡ o → (s t : State) → Sim h s t → (f g : A → Run) → ((a : A) → RunsAlike (Sim h) (f a) (g a)) → RunsAlike (Sim h) (with_value o s f) (with_value o' t g)
    value_alike {A} o o' e s t p f g k = subst (λ x. RunsAlike (Sim h) (with_value o s f) (with_value x t g)) (sym e) (by o)
      where
        by : (o : Result A Trap) → RunsAlike (Sim h) (with_value o s f) (with_value o t g)
        by (Err x) = (p, refl)
        by (Ok a) = k a

    ask_alike : (o o' : Result Bool Trap) → o' ≡ o → (f f' g g' : Meaning) (s t : State) → Sim h s t → RunsAlike (Sim h) (f s) (f' t) → RunsAlike (Sim h) (g s) (g' t) → RunsAlike (Sim h) (ask o f g s) (ask o' f' g' t)
    ask_alike o o' e f f' g g' s t p a b = subst (λ x. RunsAlike (Sim h) (ask o f g s) (ask x f' g' t)) (sym e) (by o)
      where
        by : (o : Result Bool Trap) → RunsAlike (Sim h) (ask o f g s) (ask o f' g' t)
        by (Err x) = (p, refl)
        by (Ok true) = a
        by (Ok false) = b

    block_alike : (f g : Meaning) → KeepsNames f → Alike (Sim h) f g → Alike (Sim h) (in_block f) (in_block g)
    block_alike f g n k s t p = let a = k s t p in (sim.left h s t (f s).state (g t).state p a.0 (n s), a.1)

    turn_alike : (f g : Meaning) → KeepsNames f → Alike (Sim h) f g → Alike (Sim h) (turn_of f) (turn_of g)
    turn_alike f g n k s t p = let a = block_alike f g n k s t p in (a.0, ap turn_end a.1)

    -- a test that gives the same in related states
    abbrev Asks : (State → Result Bool Trap) → Type 0
    Asks test = (s t : State) → Sim h s t → test t ≡ test s

    repeat_alike : (k : ℕ) (test : State → Result Bool Trap) → Asks test → (f g : Meaning) → Alike (Sim h) f g → Alike (Sim h) (repeat k test f) (repeat k test g)
    repeat_alike zero test same f g a s t p = ask_alike (test s) (test t) (same s t p) _ _ _ _ s t p (p, refl) (p, refl)
    repeat_alike (suc k) test same f g a s t p =
        ask_alike (test s) (test t) (same s t p) _ _ _ _ s t p (then_alike (f s) (g t) (repeat k test f) (repeat k test g) (a s t p) (repeat_alike k test same f g a)) (p, refl)

    repeat_after_alike : (k : ℕ) (test : State → Result Bool Trap) → Asks test → (f g : Meaning) → Alike (Sim h) f g → Alike (Sim h) (repeat_after k test f) (repeat_after k test g)
    repeat_after_alike zero test same f g a s t p = (p, refl)
    repeat_after_alike (suc k) test same f g a s t p = then_alike (f s) (g t) (repeat k test f) (repeat k test g) (a s t p) (repeat_alike k test same f g a)

    loop_alike : (r r' : Run) → RunsAlike (Sim h) r r' → RunsAlike (Sim h) (with_end loop_end r) (with_end loop_end r')
    loop_alike r r' a = (a.0, ap loop_end a.1)

  -- ---- assignments and calls

  -- a function runs alike in each frame that holds its parameters
  abbrev pub CalledAlike : Option Function → Type 0
  CalledAlike None = Unit {0}
  CalledAlike (Some f) = (h : List Name) (vs : List Var) → HoldsNames (param_names f.params) vs → Alike (Sim h) (in_frame vs f.run) (in_frame vs f.run)

  module _ (ds : List Define) (h : List Name) where
    value_at : (e : Expr) → Names (P h) e → (s t : State) → Sim h s t → eval ds t e ≡ eval ds s e
    value_at e k s t p = eval_same ds (P h) s t (sim.looks h s t p) e k

    holds_same : (e : Expr) → Names (P h) e → Asks h (holds_in ds e)
    holds_same e k s t p = rw (value_at e k s t p) refl

    test_same : (e : Option Expr) → NamesIf (P h) e → Asks h (head_test ds e)
    test_same None k s t p = refl
    test_same (Some e) k s t p = holds_same e k s t p

    set_alike : (w : Target) (o : SetOp) (e : Expr) → NamesIn (P h) w → Names (P h) e → Alike (Sim h) (set_to ds w o e) (set_to ds w o e)
    set_alike (target x es) o e k ke s t p =
        rw (sim.looks h s t p x k.0, type_same ds (P h) s t (sim.looks h s t p) e ke, value_at e ke s t p)
        (value_alike h _ _ (place_same ds (P h) s t (sim.looks h s t p) es k.1 _ _) s t p _ _ (λ i.
        value_alike h _ _ refl s t p _ _ (λ z.
        (sim.stored h x _ k.0 s t p, refl))))

    input_alike : (w : Target) → NamesIn (P h) w → Alike (Sim h) (take_input ds w) (take_input ds w)
    input_alike (target x es) k s t p =
        rw (sim.looks h s t p x k.0)
        (value_alike h _ _ (place_same ds (P h) s t (sim.looks h s t p) es k.1 _ _) s t p _ _ (λ i.
        value_alike h (next_input s.input) (next_input t.input) (ap next_input (sim.inputs h s t p)) s t p _ _ (λ z.
        let u = record s { input = rest_of s.input } in
        let w = record t { input = rest_of t.input } in
        let q = sim.taken h s t p in
        let o = convert (type_in (look s x)) z in
        value_alike h o o refl u w q _ _ (λ y. (sim.stored h x (changed (look s x) i y) k.0 u w q, refl)))))

    arguments_same : (s t : State) → Sim h s t → (ps : List Param) (es : Exprs) → NamesEach (P h) es → (vs : List Var) → arguments ds t ps es vs ≡ arguments ds s ps es vs
    arguments_same s t p [] es k vs = refl
    arguments_same s t p (q ∷ ps) no_exprs k vs = arguments_same s t p ps no_exprs k _
    arguments_same s t p (q ∷ ps) (more_exprs e es) k vs =
        rw (value_at e k.0 s t p) (value_same (eval ds s e) _ _ (λ z. value_same (convert q.ty z) _ _ (λ y. arguments_same s t p ps es k.1 _)))

    call_alike : (f : Option Function) → CalledAlike f → (es : Exprs) → NamesEach (P h) es → Alike (Sim h) (call_of f ds es) (call_of f ds es)
    call_alike None k es g s t p = (p, refl)
    call_alike (Some f) k es g s t p =
        subst (λ o. RunsAlike (Sim h) (call_of (Some f) ds es s) (with_value o t (λ vs. in_frame vs f.run t))) (sym (arguments_same s t p f.params es g []))
        (by (arguments ds s f.params es []) (arguments_hold ds s f.params es))
      where
        by : (o : Result (List Var) Trap) → HoldsParams f.params o → RunsAlike (Sim h) (with_value o s (λ vs. in_frame vs f.run s)) (with_value o t (λ vs. in_frame vs f.run t))
        by (Err x) q = (p, refl)
        by (Ok vs) q = k h vs q s t p

  -- ---- trees, in the scope of a construct

  copies_alike : (h : List Name) (xs : List (Name × Ty)) (zs : List ℤ) (s t : State) → Sim h s t → Sim (copied xs h) (push_copies xs zs s) (push_copies xs zs t)
  copies_alike h [] zs s t p = p
  copies_alike h (x ∷ xs) [] s t p = copies_alike (x.0 ∷ h) xs [] (push x.0 (scalar x.1 None) s) (push x.0 (scalar x.1 None) t) (sim.pushed h x.0 _ s t p)
  copies_alike h (x ∷ xs) (z ∷ zs) s t p = copies_alike (x.0 ∷ h) xs zs (push x.0 (scalar x.1 (Some z)) s) (push x.0 (scalar x.1 (Some z)) t) (sim.pushed h x.0 _ s t p)

  outer_all : (h : List Name) (xs : List (Name × Ty)) (s t : State) → Sim (copied xs h) s t → Sim h s t
  outer_all h [] s t p = p
  outer_all h (x ∷ xs) s t p = sim.outer h x.0 s t (outer_all (x.0 ∷ h) xs s t p)

  module _ (h : List Name) where
    abbrev BodyAlike : Option Body → Option Body → Type 0
    BodyAlike None None = Unit {0}
    BodyAlike None (Some b) = ⊥
    BodyAlike (Some a) None = ⊥
    BodyAlike (Some a) (Some b) = (b.vars ≡ a.vars) × Alike (Sim (copied a.vars h)) a.run b.run × KeepsNames a.run

    abbrev BodiesAlike : List Body → List Body → Type 0
    BodiesAlike [] [] = Unit {0}
    BodiesAlike [] (b ∷ bs) = ⊥
    BodiesAlike (a ∷ as') [] = ⊥
    BodiesAlike (a ∷ as') (b ∷ bs) = BodyAlike (Some a) (Some b) × BodiesAlike as' bs

    append_alike : (as' bs cs ds : List Body) → BodiesAlike as' bs → BodiesAlike cs ds → BodiesAlike (as' ++ cs) (bs ++ ds)
    append_alike [] [] cs ds k g = g
    append_alike [] (b ∷ bs) cs ds k g = absurd k
    append_alike (a ∷ as') [] cs ds k g = absurd k
    append_alike (a ∷ as') (b ∷ bs) cs ds k g = (k.0, append_alike as' bs cs ds k.1 g)

    at_alike : (as' bs : List Body) → BodiesAlike as' bs → (i : ℕ) → BodyAlike (slice_get as' i) (slice_get bs i)
    at_alike [] [] k i = tt
    at_alike [] (b ∷ bs) k i = absurd k
    at_alike (a ∷ as') [] k i = absurd k
    at_alike (a ∷ as') (b ∷ bs) k zero = k.0
    at_alike (a ∷ as') (b ∷ bs) k (suc i) = at_alike as' bs k.1 i

    body_alike : (a b : Option Body) (zs : List ℤ) → BodyAlike a b → Alike (Sim h) (run_body a zs) (run_body b zs)
    body_alike None None zs k s t p = (p, refl)
    body_alike None (Some b) zs k s t p = absurd k
    body_alike (Some a) None zs k s t p = absurd k
    body_alike (Some a) (Some b) zs k s t p =
        subst (λ xs. RunsAlike (Sim h) (run_body (Some a) zs s) (with_end turn_end (leave t (b.run (push_copies xs zs t))))) (sym k.0)
        (let u = push_copies a.vars zs s in
        let w = push_copies a.vars zs t in
        let r = k.1 u w (copies_alike h a.vars zs s t p) in (
          sim.left h s t (a.run u).state (b.run w).state p (outer_all h a.vars (a.run u).state (b.run w).state r.0)
              (names_kept.then_ s u (a.run u).state (copies_keep SameNames names_kept a.vars zs s) (k.2 u)),
          ap turn_end r.1,
        ))

    module _ (n : ℕ) (as' bs : List Body) (k : BodiesAlike as' bs) where
      mutual
        tree_alike : (u : Tree) → Alike (Sim h) (run_tree n as' u) (run_tree n bs u)
        tree_alike (body b zs) s t p = body_alike (slice_get as' b) (slice_get bs b) zs (at_alike as' bs k b) s t p
        tree_alike (do_all us) s t p = trees_alike us s t p
        tree_alike (loop us) s t p = turns_alike us n s t p

        trees_alike : (us : Trees) → Alike (Sim h) (run_all n as' us) (run_all n bs us)
        trees_alike no_trees s t p = (p, refl)
        trees_alike (more_trees u us) s t p = then_alike h (run_tree n as' u s) (run_tree n bs u t) (run_all n as' us) (run_all n bs us) (tree_alike u s t p) (trees_alike us)

        turns_alike : (us : Trees) (j : ℕ) → Alike (Sim h) (λ s. run_turns n as' us j s) (λ s. run_turns n bs us j s)
        turns_alike no_trees j s t p = (p, refl)
        turns_alike (more_trees u us) zero s t p = (p, refl)
        turns_alike (more_trees u us) (suc j) s t p =
            then_alike h (run_tree n as' u (count_turn s)) (run_tree n bs u (count_turn t)) (run_turns n as' us j) (run_turns n bs us j) (tree_alike u (count_turn s) (count_turn t) (sim.ticked h s t p)) (turns_alike us j)

  -- ---- statements

  module _ (n : ℕ) (env : Env) where
    -- the called functions run alike
    abbrev pub Calls : Name → Type 0
    Calls f = CalledAlike (function_named f env.functions)

    abbrev Used : List Name → Stmt → Type 0
    Used = Touches env.defines P Calls

    abbrev UsedAll : List Name → Stmts → Type 0
    UsedAll = TouchesAll env.defines P Calls

    list_names : (a : Stmts) → KeepsNames (exec_all n env a)
    list_names = list_keeps SameNames names_kept n env (λ x. function_names (function_named x env.functions))

    maybe_names : (a : MaybeStmt) → KeepsNames (exec_maybe n env a)
    maybe_names = maybe_keeps SameNames names_kept n env (λ x. function_names (function_named x env.functions))

    var_same : (h : List Name) (s t : State) → Sim h s t → (c : Option Canonical) → LoopNames (P h) c → loop_var env.defines t c ≡ loop_var env.defines s c
    var_same h s t p None k = refl
    var_same h s t p (Some c) k = ap (λ u. (c.var, u) ∷ []) (loop_type_same env.defines P Calls h s t (sim.looks h s t p) c k.0)

    -- what follows a statement sees what it declares
    then_after : (h : List Name) (a : Stmt) → Used h a → Alike (Sim h) (exec n env a) (exec n env a) → (f : Meaning) → Alike (Sim (scope_after a h)) f f →
        (s t : State) → Sim h s t → RunsAlike (Sim h) (then_do (exec n env a s) f) (then_do (exec n env a t) f)
    then_after h (decl u x None) k a f b s t p = weaker h x (f (push x (scalar u None) s)) (f (push x (scalar u None) t)) (b _ _ (sim.pushed h x (scalar u None) s t p))
    then_after h (decl u x (Some e)) k a f b s t p =
        let q = sim.pushed h x (scalar u None) s t p in
        subst (λ o. RunsAlike (Sim h) (then_do (exec n env (decl u x (Some e)) s) f) (then_do (with_value o (push x (scalar u None) t) (λ z. ends Next (push x (scalar u (Some z)) t))) f))
        (sym (ap (λ r. and_then r (convert u)) (value_at env.defines (x ∷ h) e k _ _ q)))
        (by (and_then (eval env.defines (push x (scalar u None) s) e) (convert u)))
      where
        by : (o : Result ℤ Trap) → RunsAlike (Sim h) (then_do (with_value o (push x (scalar u None) s) (λ z. ends Next (push x (scalar u (Some z)) s))) f) (then_do (with_value o (push x (scalar u None) t) (λ z. ends Next (push x (scalar u (Some z)) t))) f)
        by (Err y) = (sim.outer h x _ _ (sim.pushed h x (scalar u None) s t p), refl)
        by (Ok z) = weaker h x (f (push x (scalar u (Some z)) s)) (f (push x (scalar u (Some z)) t)) (b _ _ (sim.pushed h x (scalar u (Some z)) s t p))
    then_after h a k al f b s t p = then_alike h (exec n env a s) (exec n env a t) f f (al s t p) b

    mutual
      pub exec_alike : (h : List Name) (a : Stmt) → Used h a → Alike (Sim h) (exec n env a) (exec n env a)
      exec_alike h (decl u x None) k s t p = (sim.outer h x _ _ (sim.pushed h x _ s t p), refl)
      exec_alike h (decl u x (Some e)) k s t p =
          let q = sim.pushed h x (scalar u None) s t p in
          value_alike h _ _ (ap (λ r. and_then r (convert u)) (value_at env.defines (x ∷ h) e k _ _ q)) _ _ (sim.outer h x _ _ q) _ _ (λ z. (sim.outer h x _ _ (sim.pushed h x _ s t p), refl))
      exec_alike h (set w o e) k s t p = set_alike env.defines h w o e k.0 k.1 s t p
      exec_alike h (step w up) k s t p = set_alike env.defines h w (if up then Add else Sub) (num 1 Int) k tt s t p
      exec_alike h (print e) k s t p =
          value_alike h _ _ (ap (λ r. and_then r (convert Long)) (value_at env.defines h e k s t p)) s t p _ _ (λ z. (sim.said h z s t p, refl))
      exec_alike h (input w) k s t p = input_alike env.defines h w k s t p
      exec_alike h (if_ e a) k s t p =
          ask_alike h _ _ (holds_same env.defines h e k.0 s t p) (in_block (exec_all n env a)) (in_block (exec_all n env a)) _ _ s t p
          (block_alike h (exec_all n env a) (exec_all n env a) (list_names a) (list_alike h a k.1) s t p) (p, refl)
      exec_alike h (if_else e a b) k s t p =
          ask_alike h _ _ (holds_same env.defines h e k.0 s t p) (in_block (exec_all n env a)) (in_block (exec_all n env a)) (in_block (exec_all n env b)) (in_block (exec_all n env b)) s t p
          (block_alike h (exec_all n env a) (exec_all n env a) (list_names a) (list_alike h a k.1) s t p) (block_alike h (exec_all n env b) (exec_all n env b) (list_names b) (list_alike h b k.2) s t p)
      exec_alike h (while_ e a) k s t p =
          let turn = turn_of (exec_all n env a) in
          loop_alike h _ _ (repeat_alike h n (holds_in env.defines e) (holds_same env.defines h e k.0) turn turn (turn_alike h (exec_all n env a) (exec_all n env a) (list_names a) (list_alike h a k.1)) s t p)
      exec_alike h (do_ a e) k s t p =
          let turn = turn_of (exec_all n env a) in
          loop_alike h _ _ (repeat_after_alike h n (holds_in env.defines e) (holds_same env.defines h e k.1) turn turn (turn_alike h (exec_all n env a) (exec_all n env a) (list_names a) (list_alike h a k.0)) s t p)
      exec_alike h (for_ (head i e next) a) k s t p =
          let b = scope_in i h in
          let turn = for_turn (exec_all n env a) (exec_maybe n env next) in
          let looped = while_loop n (head_test env.defines e) turn in
          let r = maybe_then h i k.0 looped (λ u w q.
          loop_alike b _ _ (repeat_alike b n (head_test env.defines e) (test_same env.defines b e k.1) turn turn (λ y z r.
          then_alike b (turn_of (exec_all n env a) (count_turn y)) (turn_of (exec_all n env a) (count_turn z)) (exec_maybe n env next) (exec_maybe n env next)
          (turn_alike b (exec_all n env a) (exec_all n env a) (list_names a) (list_alike b a k.3) (count_turn y) (count_turn z) (sim.ticked b y z r)) (maybe_alike b next k.2)) u w q)) s t p in (
            sim.left h s t (then_do (exec_maybe n env i s) looped).state (then_do (exec_maybe n env i t) looped).state p r.0
                (then_keeps SameNames names_kept s (exec_maybe n env i s) looped (maybe_names i s)
                (repeat_keeps SameNames names_kept n (head_test env.defines e) turn (turn_keeps SameNames names_kept (exec_all n env a) (exec_maybe n env next) (list_names a) (maybe_names next)))),
            r.1,
          )
      exec_alike h (block a) k s t p = block_alike h (exec_all n env a) (exec_all n env a) (list_names a) (list_alike h a k) s t p
      exec_alike h break_ k s t p = (p, refl)
      exec_alike h continue_ k s t p = (p, refl)
      exec_alike h empty k s t p = (p, refl)
      exec_alike h (omp d a) k s t p =
          let j = loops_asked (plan_of env.defines d) 0 in
          value_alike h _ _ (forest_same env.defines P Calls h s t (sim.looks h s t p) d a k) s t p _ _ (λ us.
          trees_alike h n (bodies_all n env s [] j a) (bodies_all n env t [] j a) (bodies_alike h s t p [] [] refl h refl j a k) (of_list us) s t p)
      exec_alike h (call x es) k s t p = call_alike env.defines h (function_named x env.functions) k.0 es k.1 s t p

      pub list_alike : (h : List Name) (as' : Stmts) → UsedAll h as' → Alike (Sim h) (exec_all n env as') (exec_all n env as')
      list_alike h no_stmts k s t p = (p, refl)
      list_alike h (more_stmts a as') k s t p = then_after h a k.0 (exec_alike h a k.0) (exec_all n env as') (list_alike (scope_after a h) as' k.1) s t p

      maybe_alike : (h : List Name) (a : MaybeStmt) → TouchesIf env.defines P Calls h a → Alike (Sim h) (exec_maybe n env a) (exec_maybe n env a)
      maybe_alike h no_stmt k s t p = (p, refl)
      maybe_alike h (a_stmt a) k s t p = exec_alike h a k s t p

      maybe_then : (h : List Name) (a : MaybeStmt) → TouchesIf env.defines P Calls h a → (f : Meaning) → Alike (Sim (scope_in a h)) f f →
          (s t : State) → Sim h s t → RunsAlike (Sim h) (then_do (exec_maybe n env a s) f) (then_do (exec_maybe n env a t) f)
      maybe_then h no_stmt k f b s t p = b s t p
      maybe_then h (a_stmt a) k f b s t p = then_after h a k (exec_alike h a k) f b s t p

      -- b is the scope below the variables xs of the loops round this place
      body_list_alike : (h : List Name) (s t : State) → Sim h s t → (xs ys : List (Name × Ty)) → ys ≡ xs → (b : List Name) → copied xs h ≡ b → (j : ℕ) (a : Stmt) →
          TouchesNest env.defines P Calls h b j a → BodiesAlike h (bodies_of n env s xs j a) (bodies_of n env t ys j a)
      body_list_alike h s t p xs ys e b d (suc zero) (for_ (head i o next) a) k =
          let c = canonical env.defines (head i o next) in
          let same = copied-loop_var env.defines s c xs h ∙ ap (scope_with c) d in (
            (
              ap (λ us. us ++ loop_var env.defines t c) e ∙ ap (λ us. xs ++ us) (var_same h s t p c k.0),
              subst (λ u. Alike (Sim u) (exec_all n env a) (exec_all n env a)) (sym same) (list_alike (scope_with c b) a k.1),
              list_names a,
            ),
            tt,
          )
      body_list_alike h s t p xs ys e b d (suc (suc j)) (for_ (head i o next) a) k =
          let c = canonical env.defines (head i o next) in
          bodies_alike h s t p (xs ++ loop_var env.defines s c) (ys ++ loop_var env.defines t c)
          (ap (λ us. us ++ loop_var env.defines t c) e ∙ ap (λ us. xs ++ us) (var_same h s t p c k.0))
          (scope_with c b) (copied-loop_var env.defines s c xs h ∙ ap (scope_with c) d) (suc j) a k.1
      body_list_alike h s t p xs ys e b d (suc j) (block a) k = bodies_alike h s t p xs ys e b d (suc j) a k
      body_list_alike h s t p xs ys e b d (suc j) (omp o a) k = bodies_alike h s t p xs ys e b d _ a k
      body_list_alike h s t p xs ys e b d zero a k = tt
      body_list_alike h s t p xs ys e b d (suc j) _ k = tt

      bodies_alike : (h : List Name) (s t : State) → Sim h s t → (xs ys : List (Name × Ty)) → ys ≡ xs → (b : List Name) → copied xs h ≡ b → (j : ℕ) (as' : Stmts) →
          TouchesNests env.defines P Calls h b j as' → BodiesAlike h (bodies_all n env s xs j as') (bodies_all n env t ys j as')
      bodies_alike h s t p xs ys e b d j no_stmts k = tt
      bodies_alike h s t p xs ys e b d j (more_stmts a as') k =
          append_alike h (bodies_of n env s xs j a) (bodies_of n env t ys j a) (bodies_all n env s xs j as') (bodies_all n env t ys j as')
          (body_list_alike h s t p xs ys e b d j a k.0) (bodies_alike h s t p xs ys e b d j as' k.1)
