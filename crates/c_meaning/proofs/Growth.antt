-- No run prints a line away.
use Rattle.std.proofs.Common.{ℕ, [], ◌∷◌, Option, Some, Bool, true, false}
use Rattle.std.specs.Prelude.{bytes_eq, if◌then◌else◌}
use Rattle.c_tree.specs.Bare.{Name, Stmts, MaybeStmt, Stmt, define, extern_, global, function, main, Top, Program}
use Rattle.c_semantics.specs.Meaning.State.{with_globals}
use Rattle.c_semantics.specs.Meaning.SimpleStatements.{Function, Env, function_named}
use Rattle.c_semantics.specs.Meaning.Statements.{exec, exec_all, exec_maybe}
use Rattle.c_semantics.specs.Meaning.Programs.{env_after, env_with, globals_with, no_env, run_items}
use Rattle.c_semantics.proofs.Invariant.{FunctionKeeps, block_keeps, exec_keeps, list_keeps, maybe_keeps}
use Rattle.c_semantics.proofs.Grows.{MoreLines, lines_grow, lines_called}
use Rattle.c_meaning.proofs.Running.{Grows}

abbrev pub FunctionsGrow : Env → Type 0
FunctionsGrow env = (x : Name) → FunctionKeeps MoreLines lines_grow (function_named x env.functions)

one_more : (b : Bool) (f : Function) (o : Option Function) → FunctionKeeps MoreLines lines_grow (Some f) → FunctionKeeps MoreLines lines_grow o → FunctionKeeps MoreLines lines_grow (if b then Some f else o)
one_more true f o h k = h
one_more false f o h k = k

grow_with : (n : ℕ) (env : Env) (t : Top) → FunctionsGrow env → FunctionsGrow (env_with n env t)
grow_with n env (define x minus k t) h = h
grow_with n env (extern_ p) h = h
grow_with n env (global t x dims e) h = h
grow_with n env (function x ps a) h =
    let f : Function = record { name = x; params = ps; run = exec_all n env a } in
    λ y. one_more (bytes_eq y x) f (function_named y env.functions) (lines_called f (list_keeps MoreLines lines_grow n env h a)) (h y)
grow_with n env (main a) h = h

grow_after : (n : ℕ) (env : Env) (p : Program) → FunctionsGrow env → FunctionsGrow (env_after n env p)
grow_after n env [] h = h
grow_after n env (t ∷ ts) h = grow_after n (env_with n env t) ts (grow_with n env t h)

-- nor does a run of items
pub items_grow : (n : ℕ) (p : Program) (env : Env) → FunctionsGrow env → Grows (run_items n p env)
items_grow n [] env h s = lines_grow.same s
items_grow n (define x minus k t ∷ ts) env h s = items_grow n ts (env_with n env (define x minus k t)) h s
items_grow n (extern_ p ∷ ts) env h s = items_grow n ts env h s
items_grow n (global t x dims e ∷ ts) env h s = items_grow n ts env h (with_globals (globals_with env.defines s.globals (global t x dims e)) s)
items_grow n (function x ps a ∷ ts) env h s = items_grow n ts (env_with n env (function x ps a)) (grow_with n env (function x ps a) h) s
items_grow n (main a ∷ ts) env h s = block_keeps MoreLines lines_grow (exec_all n env a) (list_keeps MoreLines lines_grow n env h a) s

pub functions_grow : (n : ℕ) (p : Program) → FunctionsGrow (env_after n no_env p)
functions_grow n p = grow_after n no_env p (λ x. tt)

module _ (n : ℕ) (p : Program) where
  pub stmt_grows : (a : Stmt) → Grows (exec n (env_after n no_env p) a)
  stmt_grows a = exec_keeps MoreLines lines_grow n (env_after n no_env p) (functions_grow n p) a

  pub stmts_grow : (a : Stmts) → Grows (exec_all n (env_after n no_env p) a)
  stmts_grow a = list_keeps MoreLines lines_grow n (env_after n no_env p) (functions_grow n p) a

  pub part_grows : (a : MaybeStmt) → Grows (exec_maybe n (env_after n no_env p) a)
  part_grows a = maybe_keeps MoreLines lines_grow n (env_after n no_env p) (functions_grow n p) a
