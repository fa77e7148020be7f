use Rattle.std.proofs.Common.{◌≡◌, ◌+◌, ◌<◌, ◌^◌, drop}
use Rattle.c_tree.specs.BareOf.{bare_clauses, bare_items}
use Rattle.c_tree.specs.Height.{capped}
use Rattle.canonical_nests.specs.TallHeight.{clauses_added, items_added}
use Rattle.canonical_nests.proofs.tall_height.+added_height.Given as goal

-- What was added and what is left are all.
abbrev pub invariant-clauses_added-each : goal.invariant-clauses_added-each
invariant-clauses_added-each l =
    (capped (l.added + clauses_added (bare_clauses (drop l.clause-index l.clauses))) ≡ capped (clauses_added (bare_clauses l.clauses))) × (l.added < 2 ^ 64)

abbrev pub invariant-items_added-each : goal.invariant-items_added-each
invariant-items_added-each l =
    (capped (l.added + items_added (bare_items (drop l.item-index l.items))) ≡ capped (items_added (bare_items l.items))) × (l.added < 2 ^ 64)
