use Rattle.std.proofs.Common.{◌≡◌, drop}
use Rattle.c_tree.specs.PlacedOf.{placed_clauses}
use Rattle.canonical_nests.specs.LoopRules.Structure.{range_place}
use Rattle.loop_structure.proofs.bodies.range_place.Given as goal

-- What is left decides.
abbrev pub invariant-each : goal.invariant-each
invariant-each l = range_place l.otherwise (placed_clauses (drop l.clause-index l.clauses)) ≡ range_place l.otherwise (placed_clauses l.clauses)
