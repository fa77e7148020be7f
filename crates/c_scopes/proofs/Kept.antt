-- A run keeps each variable's name and type: a frame only gets more variables on top, and only by declarations.
use Rattle.std.proofs.Common.{◌≡◌, refl, sym, ap, ◌∙◌, subst, ℕ, zero, suc, ◌+◌, ◌-◌, List, [], ◌∷◌, ◌++◌, length, drop, Option, Some, None, Result, Ok, Err, Bool, true, false, ℤ, arith, append_assoc, length-append, slice_get}
use Rattle.std.specs.Prelude.{bytes_eq, if◌then◌else◌, unwrap_or}
use Rattle.c_tree.specs.Bare.{Name, Expr, num, Exprs, Target, target, Stmt, decl, set, step, print, input, if_, if_else, while_, do_, for_, block, break_, continue_, empty, omp, call, Stmts, no_stmts, more_stmts, head, MaybeStmt, no_stmt, a_stmt}
use Rattle.c_tree.specs.declared.tree.Ty.{Ty}
use Rattle.c_tree.specs.declared.tree.Ty.TheVariants.{Int}
use Rattle.c_tree.specs.declared.tree.SetOp.{SetOp}
use Rattle.c_tree.specs.declared.tree.SetOp.TheVariants.{Add, Sub}
use Rattle.c_semantics.specs.Meaning.State.{Cell, scalar, array, Var, State, find, write, write_at, or_else, look, store, push, keep, count_turn, with_frame}
use Rattle.c_tree.specs.declared.arithmetic.Trap.{Trap}
use Rattle.c_tree.specs.Arithmetic.{and_then, convert}
use Rattle.c_semantics.specs.Meaning.Expressions.{Define, cell_type, eval}
use Rattle.c_semantics.specs.Meaning.Runs.{End, Next, Break, Continue, Trapped, Cut, Run, Meaning, on_next, then_do, with_value, in_block, ask, repeat, repeat_after, turn_of, for_turn, while_loop}
use Rattle.c_semantics.specs.Meaning.SimpleStatements.{holds_in, head_test, declared, changed, type_in, target_place, set_to, next_input, rest_of, take_input, Function, Env, function_named, arguments, call_of}
use Rattle.c_semantics.specs.Meaning.Statements.{exec, exec_all, exec_maybe, bodies_of, bodies_all}
use Rattle.c_semantics.specs.Loops.CanonicalForm.{canonical}
use Rattle.c_semantics.specs.Loops.IterationTrees.{Tree, body, do_all, loop, Trees, no_trees, more_trees, of_list}
use Rattle.c_semantics.specs.Loops.Directives.{plan_of}
use Rattle.c_semantics.specs.Loops.Need.{loops_asked}
use Rattle.c_semantics.specs.Loops.Forest.{forest}
use Rattle.c_semantics.specs.Loops.Execution.{Body, push_copies, run_body, run_tree, run_all, run_turns, loop_var, one_body}
use Rattle.c_scopes.specs.Types.{types, KeepsFile, EachKeepsFile, IsDecl}

-- the same variables
abbrev pub Same : State → State → Type 0
Same s u = (types u.frame ≡ types s.frame) × (types u.globals ≡ types s.globals)

-- the later frame has those of the earlier one below its own
abbrev pub Grown : State → State → Type 0
Grown s u = (zs : List (Name × Ty)) × (types u.frame ≡ zs ++ types s.frame) × (types u.globals ≡ types s.globals)

abbrev pub Keeps : Meaning → Type 0
Keeps f = (s : State) → Same s (f s).state

abbrev pub Grows : Meaning → Type 0
Grows f = (s : State) → Grown s (f s).state

same_self : (s : State) → Same s s
same_self s = (refl, refl)

same_then : (s u w : State) → Same s u → Same u w → Same s w
same_then s u w h k = (k.0 ∙ h.0, k.1 ∙ h.1)

grown_self : (s : State) → Grown s s
grown_self s = ([], refl, refl)

grown_then : (s u w : State) → Grown s u → Grown u w → Grown s w
grown_then s u w h k = (k.0 ++ h.0, k.1 ∙ ap (λ l. k.0 ++ l) h.1 ∙ sym (append_assoc k.0 h.0 (types s.frame)), k.2 ∙ h.2)

pub same_grown : (s u : State) → Same s u → Grown s u
same_grown s u h = ([], h.0, h.1)

-- ---- stores

changed_cell_type : (c : Cell) (k : ℕ) (z : ℤ) → cell_type (changed (Some c) k z) ≡ cell_type c
changed_cell_type (scalar t v) k z = refl
changed_cell_type (array t dims es) k z = refl

write_types : (x : Name) (c : Cell) (l : List Var) (d : Cell) → find x l ≡ Some d → cell_type c ≡ cell_type d → types (write x c l) ≡ types l
write_types x c [] d e h = refl
write_types x c (w ∷ l) d e h = by (λ k. write_types x c l d k h) (bytes_eq x w.name) e
  where
    by : (find x l ≡ Some d → types (write x c l) ≡ types l) → (b : Bool) → (if b then Some w.cell else find x l) ≡ Some d → types (if b then record { name = w.name; cell = c } ∷ l else w ∷ write x c l) ≡ (w.name, cell_type w.cell) ∷ types l
    by rest true e = ap (λ k. (w.name, k) ∷ types l) (h ∙ ap (λ o. cell_type (unwrap_or o d)) (sym e))
    by rest false e = ap (λ r. (w.name, cell_type w.cell) ∷ r) (rest e)

write_absent : (x : Name) (c : Cell) (l : List Var) → find x l ≡ None → write x c l ≡ l
write_absent x c [] e = refl
write_absent x c (w ∷ l) e = by (write_absent x c l) (bytes_eq x w.name) e
  where
    by : (find x l ≡ None → write x c l ≡ l) → (b : Bool) → (if b then Some w.cell else find x l) ≡ None → (if b then record { name = w.name; cell = c } ∷ l else w ∷ write x c l) ≡ w ∷ l
    by rest true e = absurd (cc)
    by rest false e = ap (λ r. w ∷ r) (rest e)

pub stored_same : (x : Name) (k : ℕ) (z : ℤ) (s : State) → Same s (store x (changed (look s x) k z) s)
stored_same x k z s = by (find x s.frame) (find x s.globals) refl refl
  where
    by : (o p : Option Cell) → find x s.frame ≡ o → find x s.globals ≡ p → Same s (write_at o x (changed (or_else o p) k z) s)
    by (Some d) p e g = (write_types x (changed (Some d) k z) s.frame d e (changed_cell_type d k z), refl)
    by None (Some d) e g = (refl, write_types x (changed (Some d) k z) s.globals d g (changed_cell_type d k z))
    by None None e g = (refl, ap types (write_absent x (changed None k z) s.globals g))

-- ---- a block's frame

length-types : (l : List Var) → length (types l) ≡ length l
length-types [] = refl
length-types (v ∷ l) = ap suc (length-types l)

types-drop : (n : ℕ) (l : List Var) → types (drop n l) ≡ drop n (types l)
types-drop zero l = refl
types-drop (suc n) [] = refl
types-drop (suc n) (v ∷ l) = types-drop n l

drop-front : (zs ns : List (Name × Ty)) (n : ℕ) → n ≡ length zs → drop n (zs ++ ns) ≡ ns
drop-front [] ns n e = subst (λ k. drop k ns ≡ ns) (sym e) refl
drop-front (z ∷ zs) ns zero e = absurd (omega (arith, e))
drop-front (z ∷ zs) ns (suc n) e = drop-front zs ns n (omega (arith, e))

types-keep : (s u : State) → Grown s u → types (keep (length s.frame) u.frame) ≡ types s.frame
types-keep s u h =
    let long : length u.frame ≡ length h.0 + length s.frame =
    sym (length-types u.frame) ∙ ap length h.1 ∙ length-append h.0 (types s.frame) ∙ ap (λ k. length h.0 + k) (length-types s.frame) in
    types-drop (length u.frame - length s.frame) u.frame ∙ ap (drop (length u.frame - length s.frame)) h.1 ∙
    drop-front h.0 (types s.frame) (length u.frame - length s.frame) (omega (arith, long))

left_same : (s u : State) → Grown s u → Same s (with_frame (keep (length s.frame) u.frame) u)
left_same s u h = (types-keep s u h, h.2)

-- ---- put together

value_gives : {A : Type 0} (P : State → Type 0) (o : Result A Trap) (s : State) (f : A → Run) → P s → ((a : A) → P (f a).state) → P (with_value o s f).state
value_gives P (Err x) s f h k = h
value_gives P (Ok a) s f h k = k a

ask_gives : (P : State → Type 0) (o : Result Bool Trap) (f g : Meaning) (s : State) → P s → P (f s).state → P (g s).state → P (ask o f g s).state
ask_gives P (Err t) f g s n h k = n
ask_gives P (Ok true) f g s n h k = h
ask_gives P (Ok false) f g s n h k = k

module _ (Q : State → State → Type 0) (self : (s : State) → Q s s) (next : (s u w : State) → Q s u → Q u w → Q s w) where
  on_next_gives : (s : State) (e : End) (u : State) (f : Meaning) → Q s u → ((w : State) → Q w (f w).state) → Q s (on_next e u f).state
  on_next_gives s Next u f h k = next s u (f u).state h (k u)
  on_next_gives s Break u f h k = h
  on_next_gives s Continue u f h k = h
  on_next_gives s (Trapped t) u f h k = h
  on_next_gives s Cut u f h k = h

  then_gives : (s : State) (r : Run) (f : Meaning) → Q s r.state → ((w : State) → Q w (f w).state) → Q s (then_do r f).state
  then_gives s r f h k = on_next_gives s r.end r.state f h k

  repeat_gives : (k : ℕ) (test : State → Result Bool Trap) (f : Meaning) → ((w : State) → Q w (f w).state) → (s : State) → Q s (repeat k test f s).state
  repeat_gives zero test f h s = ask_gives (Q s) (test s) _ _ s (self s) (self s) (self s)
  repeat_gives (suc k) test f h s = ask_gives (Q s) (test s) _ _ s (self s) (then_gives s (f s) (repeat k test f) (h s) (repeat_gives k test f h)) (self s)

  repeat_after_gives : (k : ℕ) (test : State → Result Bool Trap) (f : Meaning) → ((w : State) → Q w (f w).state) → (s : State) → Q s (repeat_after k test f s).state
  repeat_after_gives zero test f h s = self s
  repeat_after_gives (suc k) test f h s = then_gives s (f s) (repeat k test f) (h s) (repeat_gives k test f h)

pub block_same : (f : Meaning) → Grows f → Keeps (in_block f)
block_same f h s = left_same s (f s).state (h s)

-- a turn of a `for`, counted
turn_grown : (f next : Meaning) → Grows f → Grows next → Grows (for_turn f next)
turn_grown f next h k s = then_gives Grown grown_self grown_then s (turn_of f (count_turn s)) next (same_grown s (turn_of f (count_turn s)).state (block_same f h (count_turn s))) k

pub turn_same : (f next : Meaning) → Grows f → Keeps next → Keeps (for_turn f next)
turn_same f next h k s = then_gives Same same_self same_then s (turn_of f (count_turn s)) next (block_same f h (count_turn s)) k

-- ---- statements without parts

set_same : (ds : List Define) (t : Target) (op : SetOp) (e : Expr) → Keeps (set_to ds t op e)
set_same ds (target x es) op e s =
    value_gives (Same s) (target_place ds s (look s x) es) s _ (same_self s) (λ i. value_gives (Same s) _ s _ (same_self s) (λ z. stored_same x i z s))

input_same : (ds : List Define) (t : Target) → Keeps (take_input ds t)
input_same ds (target x es) s =
    let u = record s { input = rest_of s.input } in
    value_gives (Same s) (target_place ds s (look s x) es) s _ (same_self s) (λ i.
    value_gives (Same s) (next_input s.input) s _ (same_self s) (λ z.
    value_gives (Same s) (convert (type_in (look s x)) z) u _ (refl, refl) (λ y. stored_same x i y u)))

declared_grown : (ds : List Define) (t : Ty) (x : Name) (e : Option Expr) → Grows (declared ds t x e)
declared_grown ds t x None s = ((x, t) ∷ [], refl, refl)
declared_grown ds t x (Some e) s =
    value_gives (Grown s) (and_then (eval ds (push x (scalar t None) s) e) (convert t)) (push x (scalar t None) s) _ ((x, t) ∷ [], refl, refl) (λ z. ((x, t) ∷ [], refl, refl))

call_same : (f : Option Function) (ds : List Define) (es : Exprs) → KeepsFile f → Keeps (call_of f ds es)
call_same None ds es h s = same_self s
call_same (Some f) ds es h s = value_gives (Same s) (arguments ds s f.params es []) s _ (same_self s) (λ vs. (refl, h vs s))

-- ---- iterations

abbrev pub BodyGrows : Option Body → Type 0
BodyGrows None = Unit {0}
BodyGrows (Some b) = Grows b.run

abbrev BodiesGrow : List Body → Type 0
BodiesGrow [] = Unit {0}
BodiesGrow (b ∷ bs) = Grows b.run × BodiesGrow bs

append_grown : (as' bs : List Body) → BodiesGrow as' → BodiesGrow bs → BodiesGrow (as' ++ bs)
append_grown [] bs h k = k
append_grown (a ∷ as') bs h k = (h.0, append_grown as' bs h.1 k)

at_grown : (bs : List Body) → BodiesGrow bs → (i : ℕ) → BodyGrows (slice_get bs i)
at_grown [] h i = tt
at_grown (b ∷ bs) h zero = h.0
at_grown (b ∷ bs) h (suc i) = at_grown bs h.1 i

copies_grown : (xs : List (Name × Ty)) (zs : List ℤ) (s : State) → Grown s (push_copies xs zs s)
copies_grown [] zs s = grown_self s
copies_grown (x ∷ xs) [] s = let u = push x.0 (scalar x.1 None) s in grown_then s u (push_copies xs [] u) (x ∷ [], refl, refl) (copies_grown xs [] u)
copies_grown (x ∷ xs) (z ∷ zs) s = let u = push x.0 (scalar x.1 (Some z)) s in grown_then s u (push_copies xs zs u) (x ∷ [], refl, refl) (copies_grown xs zs u)

pub iteration_same : (b : Option Body) (zs : List ℤ) → BodyGrows b → Keeps (run_body b zs)
iteration_same None zs h s = same_self s
iteration_same (Some b) zs h s = let u = push_copies b.vars zs s in left_same s (b.run u).state (grown_then s u (b.run u).state (copies_grown b.vars zs s) (h u))

one_grown : (k : ℕ) (xs : List (Name × Ty)) (f : Meaning) (bs : List Body) → Grows f → BodiesGrow bs → BodiesGrow (one_body k xs f bs)
one_grown zero xs f bs h k = (h, tt)
one_grown (suc m) xs f bs h k = k

module _ (n : ℕ) (bs : List Body) (h : BodiesGrow bs) where
  mutual
    tree_same : (t : Tree) → Keeps (run_tree n bs t)
    tree_same (body b zs) s = iteration_same (slice_get bs b) zs (at_grown bs h b) s
    tree_same (do_all ts) s = trees_same ts s
    tree_same (loop ts) s = turns_same ts n s

    trees_same : (ts : Trees) → Keeps (run_all n bs ts)
    trees_same no_trees s = same_self s
    trees_same (more_trees t ts) s = then_gives Same same_self same_then s (run_tree n bs t s) (run_all n bs ts) (tree_same t s) (trees_same ts)

    turns_same : (ts : Trees) (k : ℕ) → Keeps (λ s. run_turns n bs ts k s)
    turns_same no_trees k s = same_self s
    turns_same (more_trees t ts) zero s = same_self s
    turns_same (more_trees t ts) (suc k) s = then_gives Same same_self same_then s (run_tree n bs t (count_turn s)) (run_turns n bs ts k) (tree_same t (count_turn s)) (turns_same ts k)

-- ---- statements

-- a declaration adds a variable, and nothing else does
abbrev Effect : Stmt → State → State → Type 0
Effect a s u = Grown s u × (¬ (IsDecl a) → Same s u)

no_effect : (a : Stmt) (s u : State) → Same s u → Effect a s u
no_effect a s u h = (same_grown s u h, λ n. h)

module _ (n : ℕ) (env : Env) (functions : EachKeepsFile env) where
  mutual
    effect : (a : Stmt) → (s : State) → Effect a s (exec n env a s).state
    effect (decl t x e) s = (declared_grown env.defines t x e s, λ none. absurd (none tt))
    effect (set t op e) s = no_effect (set t op e) s (exec n env (set t op e) s).state (set_same env.defines t op e s)
    effect (step t up) s = no_effect (step t up) s (exec n env (step t up) s).state (set_same env.defines t (if up then Add else Sub) (num 1 Int) s)
    effect (print e) s = no_effect (print e) s (exec n env (print e) s).state (value_gives (Same s) _ s _ (same_self s) (λ z. (refl, refl)))
    effect (input t) s = no_effect (input t) s (exec n env (input t) s).state (input_same env.defines t s)
    effect (if_ e a) s =
        no_effect (if_ e a) s (exec n env (if_ e a) s).state (ask_gives (Same s) (holds_in env.defines e s) _ _ s (same_self s) (block_same (exec_all n env a) (all_grown a) s) (same_self s))
    effect (if_else e a b) s =
        no_effect (if_else e a b) s (exec n env (if_else e a b) s).state
        (ask_gives (Same s) (holds_in env.defines e s) _ _ s (same_self s) (block_same (exec_all n env a) (all_grown a) s) (block_same (exec_all n env b) (all_grown b) s))
    effect (while_ e a) s =
        no_effect (while_ e a) s (exec n env (while_ e a) s).state
        (repeat_gives Same same_self same_then n (holds_in env.defines e) (turn_of (exec_all n env a)) (block_same (exec_all n env a) (all_grown a)) s)
    effect (do_ a e) s =
        no_effect (do_ a e) s (exec n env (do_ a e) s).state
        (repeat_after_gives Same same_self same_then n (holds_in env.defines e) (turn_of (exec_all n env a)) (block_same (exec_all n env a) (all_grown a)) s)
    effect (for_ (head i e next) a) s =
        let turn = for_turn (exec_all n env a) (exec_maybe n env next) in
        no_effect (for_ (head i e next) a) s (exec n env (for_ (head i e next) a) s).state
        (left_same s (then_do (exec_maybe n env i s) (while_loop n (head_test env.defines e) turn)).state (then_gives Grown grown_self grown_then s (exec_maybe n env i s) (while_loop n (head_test env.defines e) turn) (maybe_grown i s)
        (repeat_gives Grown grown_self grown_then n (head_test env.defines e) turn (turn_grown (exec_all n env a) (exec_maybe n env next) (all_grown a) (maybe_grown next)))))
    effect (block a) s = no_effect (block a) s (exec n env (block a) s).state (block_same (exec_all n env a) (all_grown a) s)
    effect break_ s = no_effect break_ s s (same_self s)
    effect continue_ s = no_effect continue_ s s (same_self s)
    effect empty s = no_effect empty s s (same_self s)
    effect (omp d a) s =
        let j = loops_asked (plan_of env.defines d) 0 in
        no_effect (omp d a) s (exec n env (omp d a) s).state
        (value_gives (Same s) (forest env.defines s d a) s _ (same_self s) (λ ts. trees_same n (bodies_all n env s [] j a) (bodies_grown s [] j a) (of_list ts) s))
    effect (call x es) s = no_effect (call x es) s (exec n env (call x es) s).state (call_same (function_named x env.functions) env.defines es (functions x) s)

    pub all_grown : (as' : Stmts) → Grows (exec_all n env as')
    all_grown no_stmts s = grown_self s
    all_grown (more_stmts a as') s =
        then_gives Grown grown_self grown_then s (exec n env a s) (exec_all n env as') (effect a s).0 (all_grown as')

    pub maybe_grown : (a : MaybeStmt) → Grows (exec_maybe n env a)
    maybe_grown no_stmt s = grown_self s
    maybe_grown (a_stmt a) s = (effect a s).0

    body_grown : (s : State) (xs : List (Name × Ty)) (j : ℕ) (a : Stmt) → BodiesGrow (bodies_of n env s xs j a)
    body_grown s xs (suc j) (for_ (head i e next) a) =
        let ys = xs ++ loop_var env.defines s (canonical env.defines (head i e next)) in
        one_grown j ys (exec_all n env a) _ (all_grown a) (bodies_grown s ys j a)
    body_grown s xs (suc j) (block a) = bodies_grown s xs (suc j) a
    body_grown s xs (suc j) (omp d a) = bodies_grown s xs _ a
    body_grown s xs zero a = tt
    body_grown s xs (suc j) _ = tt

    bodies_grown : (s : State) (xs : List (Name × Ty)) (j : ℕ) (as' : Stmts) → BodiesGrow (bodies_all n env s xs j as')
    bodies_grown s xs j no_stmts = tt
    bodies_grown s xs j (more_stmts a as') = append_grown (bodies_of n env s xs j a) (bodies_all n env s xs j as') (body_grown s xs j a) (bodies_grown s xs j as')

  pub exec_same : (a : Stmt) → ¬ (IsDecl a) → Keeps (exec n env a)
  exec_same a none s = (effect a s).1 none
