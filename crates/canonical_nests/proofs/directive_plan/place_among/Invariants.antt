use Rattle.std.proofs.Common.{◌≡◌, ◌+◌, map, drop}
use Rattle.canonical_nests.specs.Plans.{seen_item, place_among}
use Rattle.canonical_nests.proofs.directive_plan.place_among.Given as goal

-- All items so far stand before the new one.
abbrev pub invariant-each : goal.invariant-each
invariant-each l = l.i + place_among l.position (map seen_item (drop l.i l.applied)) ≡ place_among l.position (map seen_item l.applied)
