use Rattle.std.proofs.Common.{◌≡◌, ◌+◌, ◌≤◌, [], map, drop}
use Rattle.c_tree.specs.BareOf.{bare_top}
use Rattle.canonical_nests.specs.Weight as weight
use Rattle.loop_weight.proofs.weight.items_weight.Given as goal

-- What was seen and what is left are all.
abbrev pub invariant-each : goal.invariant-each
invariant-each l = record {
  all : weight.capped_weight (l.all + weight.weight_from l.scope.defines l.scope.state (map bare_top (drop l.item-index l.items)))
      ≡ weight.capped_weight (weight.weight_from l.initial.scope.defines l.initial.scope.state (map bare_top l.items));
  within : l.all ≤ 1048577;
  outside : l.scope.state.frame ≡ [];
}
