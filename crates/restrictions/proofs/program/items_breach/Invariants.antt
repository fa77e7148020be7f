use Rattle.std.proofs.Common.{◌≡◌, [], map, drop}
use Rattle.c_tree.specs.PlacedOf.{placed_top}
use Rattle.canonical_nests.specs.LoopRules.BreachSets.{least, lesser}
use Rattle.canonical_nests.specs.LoopRules.Programs.{breaches_from}
use Rattle.restrictions.proofs.program.items_breach.Given as goal

-- The least of what was found and of what is left is the least of all.
abbrev pub invariant-each : goal.invariant-each
invariant-each l = record {
  all : lesser l.found (least (breaches_from l.scope.defines l.functions l.scope.state (map placed_top (drop l.item-index l.items)))) ≡ least (breaches_from l.initial.scope.defines l.initial.functions l.initial.scope.state (map placed_top l.items));
  outside : l.scope.state.frame ≡ [];
}
