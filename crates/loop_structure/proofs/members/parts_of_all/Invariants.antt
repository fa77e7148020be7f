use Rattle.std.proofs.Common.{◌≡◌, ◌++◌, map, drop}
use Rattle.c_tree.specs.BareOf.{bare_stmts}
use Rattle.c_tree.specs.PlacedOf.{placed_stmt}
use Rattle.c_tree.specs.WellFormed.{WellFormedStmts}
use Rattle.canonical_nests.specs.LoopRules.Structure.{parts_of_all}
use Rattle.loop_structure.proofs.members.parts_of_all.Given as goal

-- The parts so far and those of the members that are left are all.
abbrev pub invariant-each : goal.invariant-each
invariant-each g l =
    (l.all.items ++ parts_of_all (g.C.Constants.defines l.constants) (map placed_stmt (drop l.stmt-index l.members)) ≡ parts_of_all (g.C.Constants.defines l.constants) (map placed_stmt l.members))
    × WellFormedStmts (bare_stmts (drop l.stmt-index l.members))
