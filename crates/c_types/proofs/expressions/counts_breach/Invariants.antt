use Rattle.std.proofs.Common.{◌≡◌, drop, map}
use Rattle.c_tree.specs.PlacedOf.{placed_count}
use Rattle.c_tree.specs.NameRules.Breaches.{counts_breaches}
use Rattle.c_tree.specs.NameRules.BreachSets.{least, lesser}
use Rattle.c_types.proofs.expressions.counts_breach.Given as goal

-- What was found and what is left have the least breach of all.
abbrev pub invariant-each : goal.invariant-each
invariant-each l =
    lesser l.found (least (counts_breaches l.known.scope (map placed_count (drop l.count-index l.counts)))) ≡ least (counts_breaches l.known.scope (map placed_count l.counts))
