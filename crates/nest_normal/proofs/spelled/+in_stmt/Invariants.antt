use Rattle.std.proofs.Common.{◌≡◌, drop}
use Rattle.c_tree.specs.BareOf.{bare_stmts}
use Rattle.nest_normal.specs.Spelled.{in_stmts}
use Rattle.nest_normal.proofs.spelled.+in_stmt.Given as goal

-- What is left decides.
abbrev pub invariant-in_stmts-each : goal.invariant-in_stmts-each
invariant-in_stmts-each l = in_stmts l.name (bare_stmts (drop l.stmt-index l.stmts)) ≡ in_stmts l.name (bare_stmts l.stmts)
