use Rattle.std.proofs.Common.{◌≡◌, drop}
use Rattle.c_tree.specs.PlacedOf.{placed_stmts}
use Rattle.canonical_nests.specs.LoopRules.Programs.{stmts_directive}
use Rattle.canonical_nests.proofs.first_directive.+stmt_directive.Given as goal

-- What is left has the first directive.
abbrev pub invariant-stmts_directive-each : goal.invariant-stmts_directive-each
invariant-stmts_directive-each l = stmts_directive (placed_stmts (drop l.stmt-index l.stmts)) ≡ stmts_directive (placed_stmts l.stmts)
