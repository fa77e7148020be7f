use Rattle.std.proofs.Common.{◌≡◌, ◌*◌, ◌≤◌, map, drop}
use Rattle.canonical_nests.specs.LoopRules.PlacedPlans.{forget_items}
use Rattle.canonical_nests.specs.Plans.{seen_transformation, seen_item, gather}
use Rattle.canonical_nests.specs.Weight.{applied_copies, capped_weight}
use Rattle.loop_weight.proofs.copying.+copies.Given as goal

-- What was seen and what is left are all.
abbrev pub invariant-applied_copies-each : goal.invariant-applied_copies-each
invariant-applied_copies-each l = record {
  all : capped_weight (l.all * applied_copies (seen_transformation l.c) (forget_items (gather (map seen_item (drop l.item-index l.items)))) l.round l.parts.items)
      ≡ capped_weight (applied_copies (seen_transformation l.c) (forget_items (gather (map seen_item l.items))) l.round l.initial.parts.items);
  within : l.all ≤ 1048577;
}
