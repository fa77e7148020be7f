-- What runs keep of the names and the types of variables.
use Rattle.std.specs.Prelude.{◌≡◌, ℕ, List, [], ◌∷◌, Ok, None, is_some, if◌then◌else◌}
use Rattle.c_tree.specs.Bare.{Stmt, Stmts, MaybeStmt, Exprs, Param, Top, global, Program}
use Rattle.c_semantics.specs.Meaning.State.{scalar, Var, State, with_frame, with_globals}
use Rattle.c_semantics.specs.Meaning.Expressions.{Define}
use Rattle.c_semantics.specs.Meaning.Runs.{Next, in_block}
use Rattle.c_semantics.specs.Meaning.SimpleStatements.{Env, arguments}
use Rattle.c_semantics.specs.Meaning.Statements.{exec, exec_all, exec_maybe}
use Rattle.c_semantics.specs.Meaning.Programs.{env_after, globals_with, no_env}
use Rattle.c_semantics.specs.Structure.Skeleton.{scope_after, scope_in}
use Rattle.c_scopes.specs.Types.{type_filed, FileHasTypes, HasTypes, FileIs, with_params, EachKeepsFile, IsDecl}

-- a statement, and the first part of a head
abbrev pub StatementsKeepTypes : Type 0
StatementsKeepTypes =
    (n : ℕ) (env : Env) → EachKeepsFile env → (scope s : State) → HasTypes scope s →
    ((a : Stmt) → (exec n env a s).end ≡ Next → HasTypes (scope_after a scope) (exec n env a s).state)
    × ((a : Stmt) → ¬ (IsDecl a) → HasTypes scope (exec n env a s).state)
    × ((a : MaybeStmt) → (exec_maybe n env a s).end ≡ Next → HasTypes (scope_in a scope) (exec_maybe n env a s).state)

-- a list as a block
abbrev pub BlocksKeepTypes : Type 0
BlocksKeepTypes =
    (n : ℕ) (env : Env) → EachKeepsFile env → (scope s : State) → HasTypes scope s → (as' : Stmts) → HasTypes scope (in_block (exec_all n env as') s).state

-- the functions of a program
abbrev pub ProgramsKeepTypes : Type 0
ProgramsKeepTypes = (n : ℕ) (p : Program) → EachKeepsFile (env_after n no_env p)

-- the frame of a call, whatever the caller's is
abbrev pub CallsHaveTypes : Type 0
CallsHaveTypes =
    (ds : List Define) (scope s : State) (ps : List Param) (es : Exprs) (vs : List Var) → FileHasTypes scope s → arguments ds s ps es [] ≡ Ok vs →
    HasTypes (with_params ps (with_frame [] scope)) (with_frame vs s)

-- what is visible after an item of the file: of two variables with one name the first is seen
abbrev pub scope_with : State → Top → State
scope_with s (global t x dims e) = if is_some (type_filed s x) then s else with_globals (record { name = x; cell = scalar t None } ∷ s.globals) s
scope_with s _ = s

abbrev pub ItemsHaveTypes : Type 0
ItemsHaveTypes =
    (ds : List Define) (scope s : State) (i : Top) → FileIs scope s →
    HasTypes scope s × FileIs (scope_with scope i) (with_globals (globals_with ds s.globals i) s)

-- a later scope says more
abbrev pub LaterScopes : Type 0
LaterScopes = (scope s : State) (i : Top) → FileHasTypes (scope_with scope i) s → FileHasTypes scope s
