use Rattle.std.proofs.Common.{◌≡◌, map, drop}
use Rattle.c_tree.specs.BareOf.{bare_count}
use Rattle.c_tree.specs.PlacedOf.{placed_count}
use Rattle.canonical_nests.specs.Held.{CountsAreHeld}
use Rattle.canonical_nests.specs.LoopRules.BreachSets.{least, lesser}
use Rattle.canonical_nests.specs.LoopRules.Clauses.{count_breaches}
use Rattle.loop_clauses.proofs.arguments.counts_breach.Given as goal

-- What was found and what is left have the least breach of all.
abbrev pub invariant-each : goal.invariant-each
invariant-each g l =
    (lesser l.found (least (count_breaches (g.C.Constants.defines l.constants) (map placed_count (drop l.count-index l.counts)))) ≡ least (count_breaches (g.C.Constants.defines l.constants) (map placed_count l.counts)))
    × CountsAreHeld (map bare_count (drop l.count-index l.counts))
