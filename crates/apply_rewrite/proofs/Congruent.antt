-- Statements do the same when stacks in them are replaced, wherever a state has the variables of their scope: what a
-- statement does is made of what its parts do. The functions that they call need only do the same where they are called.
use Rattle.std.proofs.Common.{◌≡◌, refl, sym, ap, ◌∙◌, ℕ, zero, suc, List, [], ◌∷◌, Option, Some, None, Ok, ℤ, slice_get}
use Rattle.c_tree.specs.Bare.{Name, Exprs, Stmt, decl, set, step, print, input, break_, continue_, empty, call, Stmts, MaybeStmt, no_stmt, a_stmt}
use Rattle.c_tree.specs.declared.tree.Ty.{Ty}
use Rattle.c_tree.specs.WellFormed.{MayBegin, MayEnd}
use Rattle.c_semantics.specs.Meaning.State.{scalar, Var, State, find, push, with_frame}
use Rattle.c_semantics.specs.Meaning.Expressions.{Define}
use Rattle.c_semantics.specs.Meaning.Runs.{Next, Run, ends, then_do, leave, in_block, turn_end, with_end, turn_of, for_turn, while_loop}
use Rattle.c_semantics.specs.Meaning.SimpleStatements.{Function, Env, holds_in, head_test, function_named, arguments, call_of, call_end, in_frame}
use Rattle.c_semantics.specs.Meaning.Statements.{exec, exec_all, exec_maybe}
use Rattle.c_semantics.specs.Loops.TripCount.{entry}
use Rattle.c_semantics.specs.Loops.Directives.{plan_of}
use Rattle.c_semantics.specs.Loops.Execution.{Body, run_body}
use Rattle.c_semantics.specs.Structure.Skeleton.{scope_after, scope_in}
use Rattle.c_scopes.specs.Types.{type_held, FileHasTypes, HasTypes, EachKeepsFile}
use Rattle.c_scopes.proofs.Kept.{all_grown, iteration_same}
use Rattle.c_scopes.proofs.Scopes.{kept, pushed, statements_keep_types, blocks_keep_types}
use Rattle.c_scopes.proofs.Alike.{AlikeIn, KeepsIn, then_alike, value_alike, ask_alike, block_alike, turn_of_alike, for_turn_alike, for_turn_keeps, while_alike, do_alike, forest_alike}
use Rattle.apply_rewrite.specs.Laws.{StatementsRunAlike}
use Rattle.apply_rewrite.specs.ReverseStacks.{times_after}
use Rattle.apply_rewrite.specs.Rewritten.{IsSimple, Rewritten, same, in_if, in_if_else, in_while, in_do, in_for, a_stack, AllRewritten, none, more}
use Rattle.apply_rewrite.specs.Rewritten as rewritten
use Rattle.apply_rewrite.proofs.Stacks.{shown, construct_is, stack_is, typed_in}

-- two functions of one name that do the same where the file's variables are those of a scope
abbrev pub CalledAlike : State → Option Function → Option Function → Type 0
CalledAlike file None None = Unit {0}
CalledAlike file (Some f) (Some g) =
    (g.params ≡ f.params)
    × ((ds : List Define) (s : State) (es : Exprs) (vs : List Var) → FileHasTypes file s → arguments ds s f.params es [] ≡ Ok vs → g.run (with_frame vs s) ≡ f.run (with_frame vs s))
CalledAlike file _ _ = ⊥

-- ---- what a statement adds to a scope is no variable of the file

after_globals : (a : Stmt) (s : State) → (scope_after a s).globals ≡ s.globals
after_globals (decl t x e) s = refl
after_globals a s = refl

in_globals : (a : MaybeStmt) (s : State) → (scope_in a s).globals ≡ s.globals
in_globals no_stmt s = refl
in_globals (a_stmt a) s = after_globals a s

-- the file's variables are those of the scope
filed : (file scope : State) → scope.globals ≡ file.globals → (s : State) → HasTypes scope s → FileHasTypes file s
filed file scope e s t = λ x u h. t.filed x u (ap (λ l. type_held (find x l)) e ∙ h)

module _ (n : ℕ) (ds : List Define) (fs gs : List Function) where
  abbrev source : Env
  source = record { defines = ds; functions = fs }

  abbrev made : Env
  made = record { defines = ds; functions = gs }

  -- a call, and statements without lists
  module _ (file : State) (called : (x : Name) → CalledAlike file (function_named x fs) (function_named x gs)) where
    call_runs : (f g : Option Function) → CalledAlike file f g → (es : Exprs) (s : State) → FileHasTypes file s → call_of g ds es s ≡ call_of f ds es s
    call_runs None None h es s t = refl
    call_runs None (Some g) h es s t = absurd h
    call_runs (Some f) None h es s t = absurd h
    call_runs (Some f) (Some g) h es s t =
        ap (λ ps. call_of (Some (record { name = g.name; params = ps; run = g.run })) ds es s) h.0
        ∙ value_alike (arguments ds s f.params es []) s (λ vs. in_frame vs g.run s) (λ vs. in_frame vs f.run s) (λ vs e.
        ap {B = Run} (λ r. record { state = with_frame s.frame r.state; end = call_end r.end }) (h.1 ds s es vs t e))

    simple_runs : (a : Stmt) → IsSimple a → (s : State) → FileHasTypes file s → exec n made a s ≡ exec n source a s
    simple_runs (decl t x e) h s g = refl
    simple_runs (set t o e) h s g = refl
    simple_runs (step t up) h s g = refl
    simple_runs (print e) h s g = refl
    simple_runs (input t) h s g = refl
    simple_runs break_ h s g = refl
    simple_runs continue_ h s g = refl
    simple_runs empty h s g = refl
    simple_runs (call x es) h s g = call_runs (function_named x fs) (function_named x gs) (called x) es s g
    simple_runs a h s g = absurd h

    begin_runs : (a : MaybeStmt) → MayBegin a → (s : State) → exec_maybe n made a s ≡ exec_maybe n source a s
    begin_runs no_stmt h s = refl
    begin_runs (a_stmt (decl t x (Some e))) h s = refl
    begin_runs (a_stmt (set t o e)) h s = refl
    begin_runs (a_stmt (step t up)) h s = refl
    begin_runs (a_stmt a) h s = absurd h

    end_runs : (a : MaybeStmt) → MayEnd a → (s : State) → exec_maybe n made a s ≡ exec_maybe n source a s
    end_runs no_stmt h s = refl
    end_runs (a_stmt (set t o e)) h s = refl
    end_runs (a_stmt (step t up)) h s = refl
    end_runs (a_stmt a) h s = absurd h

    module _ (keeps : EachKeepsFile source) where
      end_keeps : (scope : State) (a : MaybeStmt) → MayEnd a → KeepsIn scope (exec_maybe n source a)
      end_keeps scope no_stmt h s t = t
      end_keeps scope (a_stmt (set u o e)) h s t = (statements_keep_types n source keeps scope s t).1 (set u o e) (λ d. d)
      end_keeps scope (a_stmt (step u up)) h s t = (statements_keep_types n source keeps scope s t).1 (step u up) (λ d. d)
      end_keeps scope (a_stmt a) h s t = absurd h

      turn_keeps : (scope : State) (a : Stmts) → KeepsIn scope (turn_of (exec_all n source a))
      turn_keeps scope a s t = blocks_keep_types n source keeps scope s t a

      -- ---- the bodies of a stack

      module _ (scope : State) (x : Name) (T : Ty) (a b : Stmts) (inside : AlikeIn (push x (scalar T None) scope) (exec_all n made b) (exec_all n source a)) where
        abbrev one : Env → Stmts → List Body
        one env c = record { vars = (x, T) ∷ []; run = exec_all n env c } ∷ []

        with_copy : (v : Option ℤ) → AlikeIn scope (λ s. with_end turn_end (leave s (exec_all n made b (push x (scalar T v) s)))) (λ s. with_end turn_end (leave s (exec_all n source a (push x (scalar T v) s))))
        with_copy v s t = ap (λ r. with_end turn_end (leave s r)) (inside (push x (scalar T v) s) (pushed scope s x (scalar T None) (scalar T v) refl t))

        bodies_alike : (i : ℕ) (zs : List ℤ) → AlikeIn scope (run_body (slice_get (one made b) i) zs) (run_body (slice_get (one source a) i) zs)
        bodies_alike zero [] s t = with_copy None s t
        bodies_alike zero (z ∷ zs) s t = with_copy (Some z) s t
        bodies_alike (suc i) zs s t = refl

        bodies_keep : (i : ℕ) (zs : List ℤ) → KeepsIn scope (run_body (slice_get (one source a) i) zs)
        bodies_keep zero zs s t = kept scope s _ (iteration_same (Some (record { vars = (x, T) ∷ []; run = exec_all n source a })) zs (all_grown n source keeps a) s) t
        bodies_keep (suc i) zs s t = t

      -- ---- statements

      mutual
        same_run : (scope : State) → scope.globals ≡ file.globals → (a b : Stmt) → Rewritten ds scope a b → AlikeIn scope (exec n made b) (exec n source a)
        same_run scope e a b (same x simple) s t = simple_runs x simple s (filed file scope e s t)
        same_run scope e a b (in_if c {a = x} {b = y} h) s t =
            ask_alike (holds_in ds c s) (in_block (exec_all n made y)) (in_block (exec_all n source x)) (ends Next) (ends Next) s
            (block_alike scope (exec_all n made y) (exec_all n source x) (all_run scope e x y h) s t) refl
        same_run scope e a b (in_if_else c {a = x} {b = y} {c = z} {d = w} h k) s t =
            ask_alike (holds_in ds c s) (in_block (exec_all n made y)) (in_block (exec_all n source x)) (in_block (exec_all n made w)) (in_block (exec_all n source z)) s
            (block_alike scope (exec_all n made y) (exec_all n source x) (all_run scope e x y h) s t)
            (block_alike scope (exec_all n made w) (exec_all n source z) (all_run scope e z w k) s t)
        same_run scope e a b (in_while c {a = x} {b = y} h) s t =
            while_alike scope (holds_in ds c) (turn_of (exec_all n made y)) (turn_of (exec_all n source x))
            (turn_of_alike scope (exec_all n made y) (exec_all n source x) (all_run scope e x y h)) (turn_keeps scope x) n s t
        same_run scope e a b (in_do c {a = x} {b = y} h) s t =
            do_alike scope (holds_in ds c) (turn_of (exec_all n made y)) (turn_of (exec_all n source x))
            (turn_of_alike scope (exec_all n made y) (exec_all n source x) (all_run scope e x y h)) (turn_keeps scope x) n s t
        same_run scope e a b (in_for i c next {a = x} {b = y} begins ends_so h) s t =
            let below = scope_in i scope in
            let new = for_turn (exec_all n made y) (exec_maybe n made next) in
            let old = for_turn (exec_all n source x) (exec_maybe n source next) in
            let alike = for_turn_alike below (exec_all n made y) (exec_all n source x) (exec_maybe n made next) (exec_maybe n source next)
            (all_run below (in_globals i scope ∙ e) x y h) (λ u g. end_runs next ends_so u) (turn_keeps below x) in
            let stays = for_turn_keeps below (exec_all n source x) (exec_maybe n source next) (turn_keeps below x) (end_keeps below next ends_so) in
            ap (leave s)
            (ap (λ r. then_do r (while_loop n (head_test ds c) new)) (begin_runs i begins s)
            ∙ then_alike (exec_maybe n source i s) (while_loop n (head_test ds c) new) (while_loop n (head_test ds c) old) (λ end.
            while_alike below (head_test ds c) new old alike stays n (exec_maybe n source i s).state ((statements_keep_types n source keeps scope s t).2 i end)))
        same_run scope e a b (rewritten.in_block {a = x} {b = y} h) s t = block_alike scope (exec_all n made y) (exec_all n source x) (all_run scope e x y h) s t
        same_run scope e a b (a_stack d k h c T m rs as' x {body' = y} reversal leads many inside stack) s t =
            let times = times_after (plan_of ds d) k in
            let under = all_run (push c.var (scalar T None) scope) e x y inside in
            stack_is n made scope s t times h c T m rs y many stack
            ∙ forest_alike scope n _ _ (bodies_alike scope c.var T x y under) (bodies_keep scope c.var T x y under) (shown times (entry ds s c)) s t
            ∙ sym (construct_is n source d k h c T as' x s reversal leads stack.form (typed_in n source scope s t c T stack.typed))

        pub all_run : (scope : State) → scope.globals ≡ file.globals → (a b : Stmts) → AllRewritten ds scope a b → AlikeIn scope (exec_all n made b) (exec_all n source a)
        all_run scope e a b none s t = refl
        all_run scope e a b (more {a = x} {b = y} {as' = xs} {bs = ys} h k) s t =
            ap (λ r. then_do r (exec_all n made ys)) (same_run scope e x y h s t)
            ∙ then_alike (exec n source x s) (exec_all n made ys) (exec_all n source xs) (λ end.
            all_run (scope_after x scope) (after_globals x scope ∙ e) xs ys k (exec n source x s).state ((statements_keep_types n source keeps scope s t).0 x end))

-- the same functions
self_called : (file : State) (o : Option Function) → CalledAlike file o o
self_called file None = tt
self_called file (Some f) = (refl, λ ds s es vs g e. refl)

pub statements_run_alike : StatementsRunAlike
statements_run_alike = λ n env scope a b keeps h.
    same_run n env.defines env.functions env.functions scope (λ x. self_called scope (function_named x env.functions)) keeps scope refl a b h
