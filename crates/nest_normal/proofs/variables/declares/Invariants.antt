use Rattle.std.proofs.Common.{◌≡◌, drop}
use Rattle.c_tree.specs.BareOf.{bare_stmts}
use Rattle.nest_normal.specs.NestTexts.{declares}
use Rattle.nest_normal.proofs.variables.declares.Given as goal

-- What is left decides.
abbrev pub invariant-each : goal.invariant-each
invariant-each l = declares l.name (bare_stmts (drop l.stmt-index l.stmts)) ≡ declares l.name (bare_stmts l.stmts)
