use Rattle.std.proofs.Common.{◌≡◌, drop, []}
use Rattle.c_tree.specs.BareOf.{bare_clauses, bare_items}
use Rattle.c_tree.specs.PlacedOf.{placed_clauses, placed_items}
use Rattle.canonical_nests.specs.Held.{ClausesAreHeld, ItemsAreHeld}
use Rattle.canonical_nests.specs.LoopRules.BreachSets.{least, lesser}
use Rattle.canonical_nests.specs.LoopRules.Clauses.{clauses_breaches, items_breaches}
use Rattle.loop_clauses.proofs.ClauseSteps.{clauses_from}
use Rattle.loop_clauses.proofs.directive.+directive_breach.Given as goal

-- What was found and what is left, after the clauses so far, have the least breach of all.
abbrev pub invariant-clauses_breach-each : goal.invariant-clauses_breach-each
invariant-clauses_breach-each g l =
    (lesser l.found (least (clauses_from (g.C.Constants.defines l.constants) l.of.kind l.of.loops l.earlier l.taken.items (placed_clauses (drop l.clause-index l.clauses))))
    ≡ least (clauses_breaches (g.C.Constants.defines l.constants) l.of.kind l.of.loops [] [] (placed_clauses l.clauses)))
    × ClausesAreHeld (bare_clauses (drop l.clause-index l.clauses))

-- The same of the items.
abbrev pub invariant-items_breach-each : goal.invariant-items_breach-each
invariant-items_breach-each g l =
    (lesser l.found (least (items_breaches (g.C.Constants.defines l.constants) (placed_items (drop l.item-index l.items))))
    ≡ least (items_breaches (g.C.Constants.defines l.constants) (placed_items l.items)))
    × ItemsAreHeld (bare_items (drop l.item-index l.items))
