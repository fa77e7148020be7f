use Rattle.std.proofs.Common.{◌≡◌, ◌++◌, drop}
use Rattle.c_tree.specs.BareOf.{bare_stmts}
use Rattle.loop_normal.specs.SourceNames.{stmts_names}
use Rattle.loop_normal.proofs.source_names.+stmt_names.Given as goal

-- What was gathered, and what is left.
abbrev pub invariant-stmts_names-each : goal.invariant-stmts_names-each
invariant-stmts_names-each l = l.names.items ++ stmts_names (bare_stmts (drop l.stmt-index l.stmts)) ≡ l.initial.names.items ++ stmts_names (bare_stmts l.stmts)
