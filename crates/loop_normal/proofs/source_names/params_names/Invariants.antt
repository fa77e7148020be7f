use Rattle.std.proofs.Common.{◌≡◌, ◌++◌, drop, map}
use Rattle.c_tree.specs.BareOf.{bare_param}
use Rattle.loop_normal.specs.SourceNames.{params_names}
use Rattle.loop_normal.proofs.source_names.params_names.Given as goal

-- What was gathered, and what is left.
abbrev pub invariant-each : goal.invariant-each
invariant-each l = l.names.items ++ params_names (map bare_param (drop l.param-index l.params)) ≡ l.initial.names.items ++ params_names (map bare_param l.params)
