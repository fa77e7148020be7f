use Rattle.std.proofs.Common.{◌≡◌, ◌++◌, drop}
use Rattle.c_tree.specs.BareOf.{bare_exprs}
use Rattle.loop_normal.specs.SourceNames.{exprs_names}
use Rattle.loop_normal.proofs.source_names.+expr_names.Given as goal

-- What was gathered, and what is left.
abbrev pub invariant-exprs_names-each : goal.invariant-exprs_names-each
invariant-exprs_names-each l = l.names.items ++ exprs_names (bare_exprs (drop l.e-index l.es)) ≡ l.initial.names.items ++ exprs_names (bare_exprs l.es)
