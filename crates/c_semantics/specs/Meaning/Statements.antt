-- What a statement does (C11 6.8), where each execution of a loop takes at most n turns; and what a construct does: its
-- iterations in the order that its directives define.
use Rattle.std.specs.Prelude.{ℕ, zero, suc, List, [], ◌++◌}
use Rattle.c_tree.specs.Bare.{Name, Stmt, decl, set, step, print, input, if_, if_else, while_, do_, for_, block, break_, continue_, empty, omp, call, Stmts, no_stmts, more_stmts, head, MaybeStmt, no_stmt, a_stmt}
use Rattle.c_tree.specs.declared.tree.Ty.{Ty}
use Rattle.c_semantics.specs.Meaning.State.{State}
use Rattle.c_semantics.specs.Meaning.Runs.{Next, Break, Continue, Meaning, ends, then_do, leave, in_block, ask, turn_of, for_turn, while_loop, do_loop}
use Rattle.c_semantics.specs.Meaning.SimpleStatements.{holds_in, head_test, declared, set_to, step_by, print_value, take_input, Env, function_named, call_of}
use Rattle.c_semantics.specs.Loops.CanonicalForm.{canonical}
use Rattle.c_semantics.specs.Loops.Directives.{plan_of}
use Rattle.c_semantics.specs.Loops.Need.{loops_asked}
use Rattle.c_semantics.specs.Loops.Forest.{forest}
use Rattle.c_semantics.specs.Loops.Execution.{Body, run_forest, loop_var, one_body}

module _ (n : ℕ) (env : Env) where
  abbrev mutual
    pub exec : Stmt → Meaning
    exec (decl t x e) s = declared env.defines t x e s
    exec (set t o e) s = set_to env.defines t o e s
    exec (step t up) s = step_by env.defines t up s
    exec (print e) s = print_value env.defines e s
    exec (input t) s = take_input env.defines t s
    exec (if_ e a) s = ask (holds_in env.defines e s) (in_block (exec_all a)) (ends Next) s
    exec (if_else e a b) s = ask (holds_in env.defines e s) (in_block (exec_all a)) (in_block (exec_all b)) s
    exec (while_ e a) s = while_loop n (holds_in env.defines e) (turn_of (exec_all a)) s
    exec (do_ a e) s = do_loop n (holds_in env.defines e) (turn_of (exec_all a)) s
    exec (for_ (head i e next) a) s =
        leave s (then_do (exec_maybe i s) (while_loop n (head_test env.defines e) (for_turn (exec_all a) (exec_maybe next))))
    exec (block a) s = in_block (exec_all a) s
    exec break_ s = ends Break s
    exec continue_ s = ends Continue s
    exec empty s = ends Next s
    exec (omp d a) s = run_forest n (forest env.defines s d a) (bodies_all s [] (loops_asked (plan_of env.defines d) 0) a) s
    exec (call x es) s = call_of (function_named x env.functions) env.defines es s

    -- one after another
    pub exec_all : Stmts → Meaning
    exec_all no_stmts s = ends Next s
    exec_all (more_stmts a as') s = then_do (exec a s) (exec_all as')

    pub exec_maybe : MaybeStmt → Meaning
    exec_maybe no_stmt s = ends Next s
    exec_maybe (a_stmt a) s = exec a s

    -- the bodies of a construct that is entered in the state s, m loops down, inside loops over these variables
    pub bodies_of : State → List (Name × Ty) → ℕ → Stmt → List Body
    bodies_of s xs zero _ = []
    bodies_of s xs (suc m) (for_ (head i e next) a) =
        let ys = xs ++ loop_var env.defines s (canonical env.defines (head i e next)) in
        one_body m ys (exec_all a) (bodies_all s ys m a)
    bodies_of s xs (suc m) (block a) = bodies_all s xs (suc m) a
    bodies_of s xs (suc m) (omp d a) = bodies_all s xs (loops_asked (plan_of env.defines d) (suc m)) a
    bodies_of s xs (suc m) _ = []

    pub bodies_all : State → List (Name × Ty) → ℕ → Stmts → List Body
    bodies_all s xs m no_stmts = []
    bodies_all s xs m (more_stmts a as') = bodies_of s xs m a ++ bodies_all s xs m as'
