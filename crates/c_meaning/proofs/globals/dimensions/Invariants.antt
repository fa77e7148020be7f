use Rattle.std.proofs.Common.{◌≡◌, map, take}
use Rattle.resolved_names.specs.Numbered.{numbered_expr}
use Rattle.c_semantics.specs.Loops.Directives.{number}
use Rattle.c_meaning.specs.Scopes.{env_of}
use Rattle.c_meaning.proofs.globals.dimensions.Given as goal

-- The numbers of the dimensions so far.
abbrev pub invariant-each : goal.invariant-each
invariant-each l = l.numbers.items ≡ map (λ e. number (env_of l.scope).defines (numbered_expr e)) (take l.dim-index l.dims)
