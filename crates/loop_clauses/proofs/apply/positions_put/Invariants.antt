use Rattle.std.proofs.Common.{◌≡◌, ◌++◌, drop}
use Rattle.c_tree.specs.PlacedOf.{placed_items}
use Rattle.canonical_nests.specs.LoopRules.Clauses.{item_list, positions_put}
use Rattle.loop_clauses.proofs.apply.positions_put.Given as goal

-- The positions so far and those of the items that are left are all.
abbrev pub invariant-each : goal.invariant-each
invariant-each l =
    l.positions.items ++ positions_put l.before (drop l.i l.numbers) (item_list (placed_items (drop l.i l.items)))
    ≡ positions_put l.before l.numbers (item_list (placed_items l.items))
