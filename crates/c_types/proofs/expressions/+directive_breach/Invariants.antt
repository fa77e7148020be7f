use Rattle.std.proofs.Common.{◌≡◌, drop}
use Rattle.c_tree.specs.PlacedOf.{placed_clauses, placed_items}
use Rattle.c_tree.specs.NameRules.Breaches.{clauses_breaches, items_breaches}
use Rattle.c_tree.specs.NameRules.BreachSets.{least, lesser}
use Rattle.c_types.proofs.expressions.+directive_breach.Given as goal

-- What was found and what is left have the least breach of all.
abbrev pub invariant-clauses_breach-each : goal.invariant-clauses_breach-each
invariant-clauses_breach-each l =
    lesser l.found (least (clauses_breaches l.known.scope (placed_clauses (drop l.clause-index l.clauses)))) ≡ least (clauses_breaches l.known.scope (placed_clauses l.clauses))

abbrev pub invariant-items_breach-each : goal.invariant-items_breach-each
invariant-items_breach-each l =
    lesser l.found (least (items_breaches l.known.scope (placed_items (drop l.item-index l.items)))) ≡ least (items_breaches l.known.scope (placed_items l.items))
