use Rattle.std.proofs.Common.{◌≡◌, ◌+◌, ◌≤◌, drop}
use Rattle.c_tree.specs.BareOf.{bare_clauses, bare_items}
use Rattle.canonical_nests.specs.Weight.{clauses_weight, items_weight, capped_weight}
use Rattle.loop_weight.proofs.directives.+added_weight.Given as goal

-- What was seen and what is left are all.
abbrev pub invariant-clauses_weight-each : goal.invariant-clauses_weight-each
invariant-clauses_weight-each l = (capped_weight (l.all + clauses_weight (bare_clauses (drop l.clause-index l.clauses))) ≡ capped_weight (clauses_weight (bare_clauses l.clauses))) × (l.all ≤ 1048577)

abbrev pub invariant-items_weight-each : goal.invariant-items_weight-each
invariant-items_weight-each l = (capped_weight (l.all + items_weight (bare_items (drop l.item-index l.items))) ≡ capped_weight (items_weight (bare_items l.items))) × (l.all ≤ 1048577)
