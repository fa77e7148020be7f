use Rattle.std.proofs.Common.{◌≡◌, drop}
use Rattle.c_tree.specs.PlacedOf.{placed_clauses, placed_items}
use Rattle.translator.specs.Unbuilt.{clauses_unbuilt, items_unbuilt}
use Rattle.translator.proofs.first_unbuilt.+directive_unbuilt.Given as goal

-- What is left has the first one.
abbrev pub invariant-clauses_unbuilt-each : goal.invariant-clauses_unbuilt-each
invariant-clauses_unbuilt-each l = clauses_unbuilt (placed_clauses (drop l.clause-index l.clauses)) ≡ clauses_unbuilt (placed_clauses l.clauses)

abbrev pub invariant-items_unbuilt-each : goal.invariant-items_unbuilt-each
invariant-items_unbuilt-each l = items_unbuilt (placed_items (drop l.item-index l.items)) ≡ items_unbuilt (placed_items l.items)
