use Rattle.std.proofs.Common.{◌≡◌, drop}
use Rattle.std.specs.Prelude.{◌||◌}
use Rattle.c_tree.specs.PlacedOf.{placed_stmts}
use Rattle.loop_heads.specs.Calling.{all_calls_assign}
use Rattle.loop_heads.proofs.calling.+calls_assign.Given as goal

-- A call was found or is among what is left.
abbrev pub invariant-calls_assign-each : goal.invariant-calls_assign-each
invariant-calls_assign-each l =
    (l.found || all_calls_assign l.functions l.name (placed_stmts (drop l.stmt-index l.stmts))) ≡ all_calls_assign l.functions l.name (placed_stmts l.stmts)
