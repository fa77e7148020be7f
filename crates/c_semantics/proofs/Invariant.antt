-- What every step of a run keeps, every run keeps: one induction for all that only grows.
use Rattle.std.proofs.Common.{ℕ, zero, suc, List, [], ◌∷◌, ◌++◌, length, Option, Some, None, Result, Ok, Err, Bool, true, false, ℤ, slice_get}
use Rattle.std.specs.Prelude.{if◌then◌else◌}
use Rattle.c_tree.specs.Bare.{Name, Expr, num, Exprs, Target, target, Stmt, decl, set, step, print, input, if_, if_else, while_, do_, for_, block, break_, continue_, empty, omp, call, Stmts, no_stmts, more_stmts, head, MaybeStmt, no_stmt, a_stmt}
use Rattle.c_tree.specs.declared.tree.Ty.{Ty}
use Rattle.c_tree.specs.declared.tree.Ty.TheVariants.{Int}
use Rattle.c_tree.specs.declared.tree.SetOp.{SetOp}
use Rattle.c_tree.specs.declared.tree.SetOp.TheVariants.{Add, Sub}
use Rattle.c_semantics.specs.Meaning.State.{Cell, scalar, Var, State, look, store, push, keep, print_line, count_turn, with_frame}
use Rattle.c_tree.specs.declared.arithmetic.Trap.{Trap}
use Rattle.c_tree.specs.Arithmetic.{and_then, convert}
use Rattle.c_semantics.specs.Meaning.Expressions.{Define, eval}
use Rattle.c_semantics.specs.Meaning.Runs.{End, Next, Break, Continue, Trapped, Cut, Run, Meaning, on_next, then_do, with_value, in_block, ask, repeat, repeat_after, turn_of, for_turn, while_loop}
use Rattle.c_semantics.specs.Meaning.SimpleStatements.{holds_in, head_test, declared, changed, type_in, target_place, set_to, next_input, rest_of, take_input, Function, Env, function_named, arguments, in_frame, call_of}
use Rattle.c_semantics.specs.Meaning.Statements.{exec, exec_all, exec_maybe, bodies_of, bodies_all}
use Rattle.c_semantics.specs.Loops.CanonicalForm.{test, canonical}
use Rattle.c_semantics.specs.Loops.IterationTrees.{Tree, body, do_all, loop, Trees, no_trees, more_trees, of_list}
use Rattle.c_semantics.specs.Loops.Directives.{plan_of}
use Rattle.c_semantics.specs.Loops.Need.{loops_asked}
use Rattle.c_semantics.specs.Loops.Forest.{forest}
use Rattle.c_semantics.specs.Loops.Execution.{Body, push_copies, run_body, run_tree, run_all, run_turns, loop_var, one_body}

-- a relation of a state to a later one, which every step keeps
pub record Kept (R : State → State → Type 0) : Type 0 where
  pub same : (s : State) → R s s
  pub then_ : (s t u : State) → R s t → R t u → R s u
  pub stored : (x : Name) (c : Cell) (s : State) → R s (store x c s)
  pub pushed : (x : Name) (c : Cell) (s : State) → R s (push x c s)
  pub said : (z : ℤ) (s : State) → R s (print_line z s)
  pub ticked : (s : State) → R s (count_turn s)
  pub taken : (s : State) → R s (record s { input = rest_of s.input })
  pub left : (s u : State) → R s u → R s (with_frame (keep (length s.frame) u.frame) u)

module _ (R : State → State → Type 0) (kept : Kept R) where
  -- a meaning that keeps it
  abbrev pub Keeps : Meaning → Type 0
  Keeps f = (s : State) → R s (f s).state

  on_next_keeps : (s : State) (e : End) (u : State) (f : Meaning) → R s u → Keeps f → R s (on_next e u f).state
  on_next_keeps s Next u f h k = kept.then_ s u (f u).state h (k u)
  on_next_keeps s Break u f h k = h
  on_next_keeps s Continue u f h k = h
  on_next_keeps s (Trapped t) u f h k = h
  on_next_keeps s Cut u f h k = h

  pub then_keeps : (s : State) (r : Run) (f : Meaning) → R s r.state → Keeps f → R s (then_do r f).state
  then_keeps s r f h k = on_next_keeps s r.end r.state f h k

  value_keeps : {A : Type 0} (t s : State) (o : Result A Trap) (f : A → Run) → R t s → ((a : A) → R t (f a).state) → R t (with_value o s f).state
  value_keeps t s (Err x) f h k = h
  value_keeps t s (Ok a) f h k = k a

  ask_keeps : (o : Result Bool Trap) (f g : Meaning) (s : State) → R s (f s).state → R s (g s).state → R s (ask o f g s).state
  ask_keeps (Err t) f g s h k = kept.same s
  ask_keeps (Ok true) f g s h k = h
  ask_keeps (Ok false) f g s h k = k

  pub block_keeps : (f : Meaning) → Keeps f → Keeps (in_block f)
  block_keeps f h s = kept.left s (f s).state (h s)

  pub repeat_keeps : (k : ℕ) (test : State → Result Bool Trap) (f : Meaning) → Keeps f → Keeps (repeat k test f)
  repeat_keeps zero test f h s = ask_keeps (test s) _ _ s (kept.same s) (kept.same s)
  repeat_keeps (suc k) test f h s = ask_keeps (test s) _ _ s (then_keeps s (f s) (repeat k test f) (h s) (repeat_keeps k test f h)) (kept.same s)

  repeat_after_keeps : (k : ℕ) (test : State → Result Bool Trap) (f : Meaning) → Keeps f → Keeps (repeat_after k test f)
  repeat_after_keeps zero test f h s = kept.same s
  repeat_after_keeps (suc k) test f h s = then_keeps s (f s) (repeat k test f) (h s) (repeat_keeps k test f h)

  pub turn_keeps : (f next : Meaning) → Keeps f → Keeps next → Keeps (for_turn f next)
  turn_keeps f next h k s = then_keeps s (turn_of f (count_turn s)) next (kept.then_ s (count_turn s) _ (kept.ticked s) (block_keeps f h (count_turn s))) k

  declared_keeps : (ds : List Define) (t : Ty) (x : Name) (e : Option Expr) → Keeps (declared ds t x e)
  declared_keeps ds t x None s = kept.pushed x _ s
  declared_keeps ds t x (Some e) s = value_keeps s (push x (scalar t None) s) (and_then (eval ds (push x (scalar t None) s) e) (convert t)) _ (kept.pushed x _ s) (λ z. kept.pushed x _ s)

  set_keeps : (ds : List Define) (t : Target) (op : SetOp) (e : Expr) → Keeps (set_to ds t op e)
  set_keeps ds (target x es) op e s =
      value_keeps s s (target_place ds s (look s x) es) _ (kept.same s) (λ i. value_keeps s s _ _ (kept.same s) (λ z. kept.stored x _ s))

  input_keeps : (ds : List Define) (t : Target) → Keeps (take_input ds t)
  input_keeps ds (target x es) s =
      let u = record s { input = rest_of s.input } in
      value_keeps s s (target_place ds s (look s x) es) _ (kept.same s) (λ i.
      value_keeps s s (next_input s.input) _ (kept.same s) (λ z.
      value_keeps s u (convert (type_in (look s x)) z) _ (kept.taken s) (λ y.
      kept.then_ s u _ (kept.taken s) (kept.stored x (changed (look s x) i y) u))))

  -- a function that keeps it, in a frame of its own
  abbrev pub FunctionKeeps : Option Function → Type 0
  FunctionKeeps None = Unit {0}
  FunctionKeeps (Some f) = (vs : List Var) → Keeps (in_frame vs f.run)

  call_keeps : (f : Option Function) (ds : List Define) (es : Exprs) → FunctionKeeps f → Keeps (call_of f ds es)
  call_keeps None ds es h s = kept.same s
  call_keeps (Some f) ds es h s = value_keeps s s (arguments ds s f.params es []) _ (kept.same s) (λ vs. h vs s)

  -- ---- trees

  abbrev pub BodyKeeps : Option Body → Type 0
  BodyKeeps None = Unit {0}
  BodyKeeps (Some b) = Keeps b.run

  abbrev pub BodiesKeep : List Body → Type 0
  BodiesKeep [] = Unit {0}
  BodiesKeep (b ∷ bs) = Keeps b.run × BodiesKeep bs

  append_keeps : (as' bs : List Body) → BodiesKeep as' → BodiesKeep bs → BodiesKeep (as' ++ bs)
  append_keeps [] bs h k = k
  append_keeps (a ∷ as') bs h k = (h.0, append_keeps as' bs h.1 k)

  pub at_keeps : (bs : List Body) → BodiesKeep bs → (i : ℕ) → BodyKeeps (slice_get bs i)
  at_keeps [] h i = tt
  at_keeps (b ∷ bs) h zero = h.0
  at_keeps (b ∷ bs) h (suc i) = at_keeps bs h.1 i

  pub copies_keep : (xs : List (Name × Ty)) (zs : List ℤ) (s : State) → R s (push_copies xs zs s)
  copies_keep [] zs s = kept.same s
  copies_keep (x ∷ xs) [] s = kept.then_ s _ _ (kept.pushed x.0 (scalar x.1 None) s) (copies_keep xs [] (push x.0 (scalar x.1 None) s))
  copies_keep (x ∷ xs) (z ∷ zs) s = kept.then_ s _ _ (kept.pushed x.0 (scalar x.1 (Some z)) s) (copies_keep xs zs (push x.0 (scalar x.1 (Some z)) s))

  body_keeps : (b : Option Body) (zs : List ℤ) → BodyKeeps b → Keeps (run_body b zs)
  body_keeps None zs h s = kept.same s
  body_keeps (Some b) zs h s = kept.left s _ (kept.then_ s (push_copies b.vars zs s) _ (copies_keep b.vars zs s) (h (push_copies b.vars zs s)))

  one_keeps : (k : ℕ) (xs : List (Name × Ty)) (f : Meaning) (bs : List Body) → Keeps f → BodiesKeep bs → BodiesKeep (one_body k xs f bs)
  one_keeps zero xs f bs h k = (h, tt)
  one_keeps (suc m) xs f bs h k = k

  module _ (n : ℕ) (bs : List Body) (h : BodiesKeep bs) where
    mutual
      pub tree_keeps : (t : Tree) → Keeps (run_tree n bs t)
      tree_keeps (body b zs) s = body_keeps (slice_get bs b) zs (at_keeps bs h b) s
      tree_keeps (do_all ts) s = trees_keep ts s
      tree_keeps (loop ts) s = turns_keep ts n s

      pub trees_keep : (ts : Trees) → Keeps (run_all n bs ts)
      trees_keep no_trees s = kept.same s
      trees_keep (more_trees t ts) s = then_keeps s (run_tree n bs t s) (run_all n bs ts) (tree_keeps t s) (trees_keep ts)

      pub turns_keep : (ts : Trees) (k : ℕ) → Keeps (λ s. run_turns n bs ts k s)
      turns_keep no_trees k s = kept.same s
      turns_keep (more_trees t ts) zero s = kept.same s
      turns_keep (more_trees t ts) (suc k) s =
          then_keeps s (run_tree n bs t (count_turn s)) (run_turns n bs ts k) (kept.then_ s (count_turn s) _ (kept.ticked s) (tree_keeps t (count_turn s))) (turns_keep ts k)

  -- ---- statements

  module _ (n : ℕ) (env : Env) (functions : (x : Name) → FunctionKeeps (function_named x env.functions)) where
    mutual
      pub exec_keeps : (a : Stmt) → Keeps (exec n env a)
      exec_keeps (decl t x e) s = declared_keeps env.defines t x e s
      exec_keeps (set t op e) s = set_keeps env.defines t op e s
      exec_keeps (step t up) s = set_keeps env.defines t (if up then Add else Sub) (num 1 Int) s
      exec_keeps (print e) s = value_keeps s s _ _ (kept.same s) (λ z. kept.said z s)
      exec_keeps (input t) s = input_keeps env.defines t s
      exec_keeps (if_ e a) s = ask_keeps (holds_in env.defines e s) _ _ s (block_keeps (exec_all n env a) (list_keeps a) s) (kept.same s)
      exec_keeps (if_else e a b) s =
          ask_keeps (holds_in env.defines e s) _ _ s (block_keeps (exec_all n env a) (list_keeps a) s) (block_keeps (exec_all n env b) (list_keeps b) s)
      exec_keeps (while_ e a) s = repeat_keeps n (holds_in env.defines e) (turn_of (exec_all n env a)) (block_keeps (exec_all n env a) (list_keeps a)) s
      exec_keeps (do_ a e) s = repeat_after_keeps n (holds_in env.defines e) (turn_of (exec_all n env a)) (block_keeps (exec_all n env a) (list_keeps a)) s
      exec_keeps (for_ (head i e next) a) s =
          let turn = for_turn (exec_all n env a) (exec_maybe n env next) in
          kept.left s _ (then_keeps s (exec_maybe n env i s) (while_loop n (head_test env.defines e) turn) (maybe_keeps i s)
          (repeat_keeps n (head_test env.defines e) turn (turn_keeps (exec_all n env a) (exec_maybe n env next) (list_keeps a) (maybe_keeps next))))
      exec_keeps (block a) s = block_keeps (exec_all n env a) (list_keeps a) s
      exec_keeps break_ s = kept.same s
      exec_keeps continue_ s = kept.same s
      exec_keeps empty s = kept.same s
      exec_keeps (omp d a) s =
          let j = loops_asked (plan_of env.defines d) 0 in
          value_keeps s s (forest env.defines s d a) _ (kept.same s) (λ ts. trees_keep n (bodies_all n env s [] j a) (bodies_keep s [] j a) (of_list ts) s)
      exec_keeps (call x es) s = call_keeps (function_named x env.functions) env.defines es (functions x) s

      pub list_keeps : (as' : Stmts) → Keeps (exec_all n env as')
      list_keeps no_stmts s = kept.same s
      list_keeps (more_stmts a as') s = then_keeps s (exec n env a s) (exec_all n env as') (exec_keeps a s) (list_keeps as')

      pub maybe_keeps : (a : MaybeStmt) → Keeps (exec_maybe n env a)
      maybe_keeps no_stmt s = kept.same s
      maybe_keeps (a_stmt a) s = exec_keeps a s

      body_list_keeps : (s : State) (xs : List (Name × Ty)) (j : ℕ) (a : Stmt) → BodiesKeep (bodies_of n env s xs j a)
      body_list_keeps s xs (suc j) (for_ (head i e next) a) =
          let ys = xs ++ loop_var env.defines s (canonical env.defines (head i e next)) in
          one_keeps j ys (exec_all n env a) _ (list_keeps a) (bodies_keep s ys j a)
      body_list_keeps s xs (suc j) (block a) = bodies_keep s xs (suc j) a
      body_list_keeps s xs (suc j) (omp d a) = bodies_keep s xs _ a
      body_list_keeps s xs zero a = tt
      body_list_keeps s xs (suc j) _ = tt

      pub bodies_keep : (s : State) (xs : List (Name × Ty)) (j : ℕ) (as' : Stmts) → BodiesKeep (bodies_all n env s xs j as')
      bodies_keep s xs j no_stmts = tt
      bodies_keep s xs j (more_stmts a as') = append_keeps (bodies_of n env s xs j a) (bodies_all n env s xs j as') (body_list_keeps s xs j a) (bodies_keep s xs j as')
