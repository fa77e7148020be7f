use Rattle.std.proofs.Common.{◌≡◌, map, drop}
use Rattle.c_tree.specs.PlacedOf.{placed_stmt}
use Rattle.canonical_nests.specs.LoopRules.BreachSets.{least, lesser}
use Rattle.canonical_nests.specs.LoopRules.Structure.{member_breaches}
use Rattle.loop_structure.proofs.members.member_breach.Given as goal

-- What was found and what is left have the least breach of all.
abbrev pub invariant-each : goal.invariant-each
invariant-each l = lesser l.found (least (member_breaches (map placed_stmt (drop l.stmt-index l.members)))) ≡ least (member_breaches (map placed_stmt l.members))
