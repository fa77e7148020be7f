use Rattle.std.proofs.Common.{◌≡◌, drop}
use Rattle.loop_normal.specs.Gens.{parts_stmts}
use Rattle.loop_normal.specs.GenOf.{bare_parts}
use Rattle.nest_normal.specs.NestTexts.{declares}
use Rattle.nest_normal.proofs.variables.parts_declare.Given as goal

-- What is left decides.
abbrev pub invariant-each : goal.invariant-each
invariant-each l = declares l.name (parts_stmts (bare_parts (drop l.part-index l.parts))) ≡ declares l.name (parts_stmts (bare_parts l.parts))
