-- What is known at a place of a program.
use Rattle.std.specs.Prelude.{List, [], ◌∷◌, map, Option, Some, None, bytes_eq, if◌then◌else◌}
use Rattle.c_tree.specs.Bare.{Name}
use Rattle.resolved_names.specs.Numbered.{numbered_top}
use Rattle.c_tree.specs.declared.constant.TypedValue.{TypedValue}
use Rattle.c_semantics.specs.Meaning.Expressions.{Define}
use Rattle.c_semantics.specs.Meaning.SimpleStatements.{Env}
use Rattle.c_semantics.specs.Meaning.Programs.{env_after, no_env}
use Rattle.c_meaning.specs.declared.scope.Scope.{Scope}

-- the defines and the functions of the items
abbrev pub env_of : Scope → Env
env_of s = env_after s.bound no_env (map numbered_top s.items.now)

-- what a name is defined as; the latest define counts
abbrev pub constant_in : List Define → Name → Option TypedValue
constant_in [] x = None
constant_in (d ∷ ds) x = if bytes_eq x d.name then Some (record { ty = d.ty; value = d.value }) else constant_in ds x
