use Rattle.std.proofs.Common.{◌≡◌, ◌≤◌, length, map, take}
use Rattle.resolved_names.specs.Numbered.{numbered_top, number_name}
use Rattle.c_semantics.specs.Meaning.SimpleStatements.{function_named}
use Rattle.c_semantics.specs.Meaning.Programs.{env_after, no_env}
use Rattle.c_meaning.specs.Scopes.{env_of}
use Rattle.c_meaning.proofs.functions.function_named.Given as goal

-- What is left has the function.
abbrev pub invariant-each : goal.invariant-each
invariant-each l = record {
  within : l.left ≤ length l.scope.items.now;
  among : function_named (number_name l.name) (env_after l.scope.bound no_env (map numbered_top (take l.left l.scope.items.now))).functions ≡ function_named (number_name l.name) (env_of l.scope).functions;
}

abbrev pub decreases-each : goal.decreases-each
decreases-each l = l.left
