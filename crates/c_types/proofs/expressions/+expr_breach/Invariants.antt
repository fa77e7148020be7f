use Rattle.std.proofs.Common.{◌≡◌, drop}
use Rattle.c_tree.specs.PlacedOf.{placed_exprs}
use Rattle.c_tree.specs.NameRules.Breaches.{exprs_breaches}
use Rattle.c_tree.specs.NameRules.BreachSets.{least, lesser}
use Rattle.c_types.proofs.expressions.+expr_breach.Given as goal

-- What was found and what is left have the least breach of all.
abbrev pub invariant-exprs_breach-each : goal.invariant-exprs_breach-each
invariant-exprs_breach-each l =
    lesser l.found (least (exprs_breaches l.known.scope (placed_exprs (drop l.e-index l.es)))) ≡ least (exprs_breaches l.known.scope (placed_exprs l.es))
