use Rattle.std.proofs.Common.{◌≡◌}
use Rattle.c_tree.specs.BareOf.{bare_stmts}
use Rattle.loop_normal.specs.Gens.{parts_stmts}
use Rattle.loop_normal.specs.GenOf.{bare_parts}
use Rattle.loop_normal.proofs.statements.+statements.Given as goal

-- The statements of the parts so far.
abbrev pub invariant-parts_stmts-each : goal.invariant-parts_stmts-each
invariant-parts_stmts-each l = bare_stmts l.list ≡ parts_stmts (bare_parts l.yielded)
