use Rattle.std.proofs.Common.{◌≡◌, drop}
use Rattle.std.specs.List.{list_any}
use Rattle.c_tree.specs.PlacedOf.{placed_items}
use Rattle.canonical_nests.specs.LoopRules.Clauses.{is_fuse, item_list}
use Rattle.loop_clauses.proofs.apply.has_fuse.Given as goal

-- What is left decides.
abbrev pub invariant-each : goal.invariant-each
invariant-each l = list_any is_fuse (item_list (placed_items (drop l.item-index l.items))) ≡ list_any is_fuse (item_list (placed_items l.items))
