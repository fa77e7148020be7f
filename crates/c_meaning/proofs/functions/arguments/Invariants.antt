use Rattle.std.proofs.Common.{◌≡◌, [], drop, map}
use Rattle.resolved_names.specs.Numbered.{numbered_param, numbered_exprs}
use Rattle.c_semantics.specs.Meaning.SimpleStatements.{arguments}
use Rattle.c_meaning.specs.Scopes.{env_of}
use Rattle.c_meaning.proofs.functions.arguments.Given as goal

-- The parameters that are left are put before the frame so far.
abbrev pub invariant-each : goal.invariant-each
invariant-each l =
    arguments (env_of l.scope).defines l.m (map numbered_param (drop l.index l.params)) (numbered_exprs (drop l.index l.args)) l.frame
    ≡ arguments (env_of l.scope).defines l.m (map numbered_param l.params) (numbered_exprs l.args) []
