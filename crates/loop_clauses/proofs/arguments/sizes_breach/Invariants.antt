use Rattle.std.proofs.Common.{◌≡◌, drop}
use Rattle.c_tree.specs.BareOf.{bare_exprs}
use Rattle.c_tree.specs.Placed.{expr_list}
use Rattle.c_tree.specs.PlacedOf.{placed_exprs}
use Rattle.c_tree.specs.Constants.{EachLiteralIsHeld}
use Rattle.canonical_nests.specs.LoopRules.BreachSets.{least, lesser}
use Rattle.canonical_nests.specs.LoopRules.Clauses.{size_breaches}
use Rattle.loop_clauses.proofs.arguments.sizes_breach.Given as goal

-- What was found and what is left have the least breach of all.
abbrev pub invariant-each : goal.invariant-each
invariant-each g l =
    (lesser l.found (least (size_breaches (g.C.Constants.defines l.constants) (expr_list (placed_exprs (drop l.e-index l.es))))) ≡ least (size_breaches (g.C.Constants.defines l.constants) (expr_list (placed_exprs l.es))))
    × EachLiteralIsHeld (bare_exprs (drop l.e-index l.es))
