use Rattle.std.proofs.Common.{◌≡◌, drop}
use Rattle.std.specs.Prelude.{is_some}
use Rattle.c_tree.specs.PlacedOf.{placed_exprs}
use Rattle.canonical_nests.specs.LoopRules.BreachSets.{least, lesser}
use Rattle.loop_heads.specs.Reading.{changes_of, each_breaches}
use Rattle.loop_heads.proofs.reading.+bound_breach.Given as goal

-- The least of what was found and of what is left is the least of all.
abbrev pub invariant-each_breach-each : goal.invariant-each_breach-each
invariant-each_breach-each l =
    lesser l.found (least (each_breaches l.place.functions.now l.place.scope.now.state (changes_of l.place.construct.now) l.place.round.now (is_some l.place.canon.ty) l.place.canon.var.now (placed_exprs (drop l.e-index l.es))))
    ≡ least (each_breaches l.place.functions.now l.place.scope.now.state (changes_of l.place.construct.now) l.place.round.now (is_some l.place.canon.ty) l.place.canon.var.now (placed_exprs l.es))
