-- What the code knows of a function that is called, and of the arguments of a call.
use Rattle.std.specs.Prelude.{◌≡◌, ◌+◌, ◌<◌, List, [], ◌∷◌, map, Option, Some, None, Result, Ok, Err, ℤ}
use Rattle.c_tree.specs.Bare.{Name}
use Rattle.resolved_names.specs.Numbered.{number_name, numbered_top, numbered_expr, numbered_param, numbered_stmts}
use Rattle.c_tree.specs.Arithmetic.{and_then, convert}
use Rattle.c_tree.specs.declared.arithmetic.Trap.{Trap}
use Rattle.resolved_names.specs.declared.tree.Expr.{Expr}
use Rattle.c_tree.specs.declared.tree.Ty.{Ty}
use Rattle.c_semantics.specs.Meaning.State.{Var, State}
use Rattle.c_semantics.specs.Meaning.Expressions.{Define, eval}
use Rattle.c_semantics.specs.Meaning.SimpleStatements.{Function, function_named}
use Rattle.c_semantics.specs.Meaning.Statements.{exec_all}
use Rattle.c_meaning.specs.declared.functions.Known.{Known}
use Rattle.c_meaning.specs.declared.functions.Stop.{Stop}
use Rattle.c_meaning.specs.declared.functions.Stop.TheVariants as stop
use Rattle.c_meaning.specs.declared.run.End.{End}
use Rattle.c_meaning.specs.declared.run.End.TheVariants.{Trapped}
use Rattle.c_meaning.specs.declared.run.RunFault.{RunFault}
use Rattle.c_meaning.specs.declared.run.RunFault.TheVariants.{Memory}
use Rattle.c_meaning.specs.declared.scope.Scope.{Scope}
use Rattle.c_meaning.specs.Runnable.{RunnableTops, RunnableStmts}
use Rattle.c_meaning.specs.Scopes.{env_of}
use Rattle.c_meaning.specs.Sizes.{stmts_size, tops_size}

abbrev pub function_of : Known → Function
function_of f = record { name = number_name f.name; params = map numbered_param f.params.now; run = exec_all f.scope.bound (env_of f.scope) (numbered_stmts f.body.now) }

-- what the name means at this place; its body lies before it
pub record IsKnown (scope : Scope) (x : Name) (f : Known) : Type 0 where
  pub means : function_named x (env_of scope).functions ≡ Some (function_of f)
  pub bound : f.scope.bound ≡ scope.bound
  pub known : RunnableTops (map numbered_top f.scope.items.now)
  pub body : RunnableStmts (numbered_stmts f.body.now)
  pub before : tops_size (map numbered_top f.scope.items.now) + stmts_size (numbered_stmts f.body.now) < tops_size (map numbered_top scope.items.now)

-- the first of the arguments that are left, converted to its parameter's type
abbrev pub argument_at : List Define → State → Ty → List Expr → Result (Option ℤ) Trap
argument_at ds s t [] = Ok None
argument_at ds s t (e ∷ es) = and_then (eval ds s (numbered_expr e)) (λ z. and_then (convert t z) (λ y. Ok (Some y)))

-- a trap stops the call, or memory is wanting
abbrev pub Stops : Stop → Result (List Var) Trap → Type 0
Stops (stop.Trap t) r = r ≡ Err t
Stops stop.Memory r = Unit {0}

abbrev pub stopped_as : Stop → Result End RunFault
stopped_as (stop.Trap t) = Ok (Trapped t)
stopped_as stop.Memory = Err Memory
