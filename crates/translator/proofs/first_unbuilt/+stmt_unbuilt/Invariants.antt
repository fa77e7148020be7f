use Rattle.std.proofs.Common.{◌≡◌, drop}
use Rattle.c_tree.specs.PlacedOf.{placed_stmts}
use Rattle.translator.specs.Unbuilt.{stmts_unbuilt}
use Rattle.translator.proofs.first_unbuilt.+stmt_unbuilt.Given as goal

-- What is left has the first one.
abbrev pub invariant-stmts_unbuilt-each : goal.invariant-stmts_unbuilt-each
invariant-stmts_unbuilt-each l = stmts_unbuilt (placed_stmts (drop l.stmt-index l.stmts)) ≡ stmts_unbuilt (placed_stmts l.stmts)
