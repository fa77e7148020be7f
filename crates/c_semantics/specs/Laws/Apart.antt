-- Running with and without a variable that isn't named.
use Rattle.std.specs.Prelude.{◌≡◌, ℕ, List, ◌∷◌, length, Option, Some, None, false, bytes_eq, IsFalse}
use Rattle.c_tree.specs.Bare.{Name, Stmt, Program}
use Rattle.c_semantics.specs.Meaning.State.{Var, State, with_frame, with_globals}
use Rattle.c_semantics.specs.Meaning.Runs.{Run, Meaning}
use Rattle.c_semantics.specs.Meaning.SimpleStatements.{Function, Env, function_named, in_frame}
use Rattle.c_semantics.specs.Meaning.Statements.{exec}
use Rattle.c_semantics.specs.Meaning.Programs.{env_after, no_env}
use Rattle.c_semantics.specs.Meaning.FileVariables.{has_name, may_read, may_assign}
use Rattle.c_semantics.specs.Laws.Names.{Uses}

-- two names
abbrev pub Differ : Name → Name → Type 0
Differ x y = bytes_eq x y ≡ false

-- the second list is the first with v in it, above the last k variables
pub data Beside (v : Var) (k : ℕ) : List Var → List Var → Type 0 where
  here : (l : List Var) → length l ≡ k → Beside v k l (v ∷ l)
  there : (w : Var) {l m : List Var} → Beside v k l m → Beside v k (w ∷ l) (w ∷ m)

-- the second state is the first with v in its innermost frame
abbrev pub BesideInFrame : Var → ℕ → State → State → Type 0
BesideInFrame v k s t = (m : List Var) × Beside v k s.frame m × (t ≡ with_frame m s)

-- the same of the file's variables
abbrev pub BesideInFile : Var → ℕ → State → State → Type 0
BesideInFile v k s t = (m : List Var) × Beside v k s.globals m × (t ≡ with_globals m s)

-- the same end, in states that are so related
abbrev pub RunsAlike : (State → State → Type 0) → Run → Run → Type 0
RunsAlike Sim r r' = Sim r.state r'.state × (r'.end ≡ r.end)

-- from related states
abbrev pub Alike : (State → State → Type 0) → Meaning → Meaning → Type 0
Alike Sim f g = (s t : State) → Sim s t → RunsAlike Sim (f s) (g t)

-- statements run alike with and without a variable of the innermost frame that they don't name
abbrev pub RunsWithoutLocal : Type 0
RunsWithoutLocal =
    (n : ℕ) (env : Env) (v : Var) (k : ℕ) (a : Stmt) → Uses (λ y. Differ y v.name) (λ f. Unit {0}) a →
    Alike (BesideInFrame v k) (exec n env a) (exec n env a)

-- a function runs alike
abbrev pub FunctionAlike : (State → State → Type 0) → Option Function → Type 0
FunctionAlike Sim None = Unit {0}
FunctionAlike Sim (Some f) = (vs : List Var) → Alike Sim (in_frame vs f.run) (in_frame vs f.run)

-- and with and without a variable of the file that they don't name, where the functions that they call do
abbrev pub RunsWithoutGlobal : Type 0
RunsWithoutGlobal =
    (n : ℕ) (env : Env) (v : Var) (k : ℕ) (a : Stmt) →
    Uses (λ y. Differ y v.name) (λ f. FunctionAlike (BesideInFile v k) (function_named f env.functions)) a →
    Alike (BesideInFile v k) (exec n env a) (exec n env a)

-- a variable is neither among those that a function may read nor among those that it may assign
abbrev pub IsUntouched : Program → Name → Name → Type 0
IsUntouched p x f = IsFalse (has_name (may_read p f) x) × IsFalse (has_name (may_assign p f) x)

-- and with and without a variable of the file that they don't name, and that is neither among the variables that a
-- function which they call may read nor among those that it may assign; p are the items that stand before
abbrev pub RunsWithoutUntouched : Type 0
RunsWithoutUntouched =
    (n : ℕ) (p : Program) (v : Var) (k : ℕ) (a : Stmt) → Uses (λ y. Differ y v.name) (IsUntouched p v.name) a →
    Alike (BesideInFile v k) (exec n (env_after n no_env p) a) (exec n (env_after n no_env p) a)
