use Rattle.std.proofs.Common.{◌≡◌, ◌≤◌, length, map, take}
use Rattle.resolved_names.specs.Numbered.{numbered_top, number_name}
use Rattle.c_semantics.specs.Meaning.Programs.{env_after, no_env}
use Rattle.c_meaning.specs.Scopes.{env_of, constant_in}
use Rattle.c_meaning.proofs.defines.define_named.Given as goal

-- What is left has the define.
abbrev pub invariant-each : goal.invariant-each
invariant-each l = record {
  within : l.left ≤ length l.scope.items.now;
  among : constant_in (env_after l.scope.bound no_env (map numbered_top (take l.left l.scope.items.now))).defines (number_name l.name) ≡ constant_in (env_of l.scope).defines (number_name l.name);
}

abbrev pub decreases-each : goal.decreases-each
decreases-each l = l.left
