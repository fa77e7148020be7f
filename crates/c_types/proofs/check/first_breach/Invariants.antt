use Rattle.std.proofs.Common.{◌≡◌, drop, map}
use Rattle.c_tree.specs.BareOf.{bare_top}
use Rattle.c_tree.specs.PlacedOf.{placed_top}
use Rattle.c_tree.specs.WellFormed.{WellFormedTops}
use Rattle.c_tree.specs.NameRules.BreachSets.{least, lesser}
use Rattle.c_tree.specs.NameRules.Programs.{breaches, breaches_from}
use Rattle.c_types.proofs.check.first_breach.Given as goal

-- What was found, and what is left where so much is known by now, have the least breach of all.
abbrev pub invariant-each : goal.invariant-each
invariant-each l = record {
  breach : lesser l.breach (least (breaches_from l.known (map placed_top (drop l.item-index l.items)))) ≡ least (breaches (map placed_top l.items));
  good : WellFormedTops (map bare_top (drop l.item-index l.items));
}
