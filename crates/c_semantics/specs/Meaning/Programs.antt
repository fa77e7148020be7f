-- What a program does as a whole (C11 5.1.2.2.3, 6.7.9, 6.9): its file-scope variables at the start, then `main`.
use Rattle.std.specs.Prelude.{ℕ, ◌*◌, List, [], ◌∷◌, ◌++◌, map, replicate, Option, Some, None, Bool, ℤ, pos, neg_ℤ, unwrap_or, if◌then◌else◌}
use Rattle.c_tree.specs.Bare.{Name, Expr, expr_list, Top, define, global, function, main, Program}
use Rattle.c_tree.specs.declared.tree.Ty.{Ty}
use Rattle.c_semantics.specs.Meaning.State.{Cell, scalar, array, Var, State, with_globals}
use Rattle.c_tree.specs.declared.arithmetic.Trap.{Trap}
use Rattle.c_semantics.specs.Meaning.Expressions.{Define, constant}
use Rattle.c_semantics.specs.Meaning.Runs.{End, Next, Trapped, Cut, Run, ends, in_block}
use Rattle.c_semantics.specs.Meaning.SimpleStatements.{Env}
use Rattle.c_semantics.specs.Meaning.Statements.{exec_all}
use Rattle.c_semantics.specs.Loops.Directives.{number}

-- ---- the items

abbrev pub product : List ℕ → ℕ
product [] = 1
product (k ∷ ks) = k * product ks

-- a file-scope variable at the start: 0, or its constant initial value; each element of an array 0
abbrev pub initial : List Define → Ty → List Expr → Option Expr → Cell
initial ds t [] None = scalar t (Some (pos 0))
initial ds t [] (Some e) = scalar t (Some (unwrap_or (constant ds e) (pos 0)))
initial ds t (d ∷ dims) o = array t (map (number ds) (d ∷ dims)) (replicate (product (map (number ds) (d ∷ dims))) (pos 0))

abbrev pub signed : Bool → ℕ → ℤ
signed minus k = if minus then neg_ℤ (pos k) else pos k

abbrev pub define_of : Name → Bool → ℕ → Ty → Define
define_of x minus k t = record { name = x; ty = t; value = signed minus k }

-- what is known after an item: a define, or a function, whose body knows what stands before it
abbrev pub env_with : ℕ → Env → Top → Env
env_with n env (define x minus k t) = record env { defines = define_of x minus k t ∷ env.defines }
env_with n env (function x ps a) = record env { functions = record { name = x; params = ps; run = exec_all n env a } ∷ env.functions }
env_with n env _ = env

abbrev pub env_after : ℕ → Env → Program → Env
env_after n env [] = env
env_after n env (i ∷ is) = env_after n (env_with n env i) is

-- the file-scope variables after an item
abbrev pub globals_with : List Define → List Var → Top → List Var
globals_with ds vs (global t x dims e) = vs ++ record { name = x; cell = initial ds t (expr_list dims) e } ∷ []
globals_with ds vs _ = vs

abbrev pub no_env : Env
no_env = record { defines = []; functions = [] }

-- ---- runs

-- the items in order, up to `main`, which runs in a frame of its own
abbrev pub run_items : ℕ → Program → Env → State → Run
run_items n [] env s = ends Next s
run_items n (main a ∷ is) env s = in_block (exec_all n env a) s
run_items n (i ∷ is) env s = run_items n is (env_with n env i) (with_globals (globals_with env.defines s.globals i) s)

abbrev pub run_program : ℕ → Program → List ℤ → Run
run_program n p input = run_items n p no_env (record { frame = []; globals = []; lines = []; input = input; turns = 0 })

-- how a program's run ends
pub data Finish : Type 0 where
  Ended : Finish
  Stopped : Trap → Finish
  CutOff : Finish

abbrev pub finish : End → Finish
finish (Trapped t) = Stopped t
finish Cut = CutOff
finish _ = Ended

-- the printed lines, the file-scope variables in order, the input that is left, and the end
pub record Outcome : Type 0 where
  pub lines : List ℤ
  pub globals : List Var
  pub input : List ℤ
  pub end : Finish

-- what a program does, its directives in force where it has some; each execution of a loop takes at most n turns
abbrev pub outcome : ℕ → Program → List ℤ → Outcome
outcome n p input =
    let r = run_program n p input in
    record { lines = r.state.lines; globals = r.state.globals; input = r.state.input; end = finish r.end }

-- the turns of `for` loops that it enters
abbrev pub turns_of : ℕ → Program → List ℤ → ℕ
turns_of n p input = (run_program n p input).state.turns
