use Rattle.std.proofs.Common.{◌≡◌, drop}
use Rattle.c_tree.specs.BareOf.{bare_exprs}
use Rattle.c_tree.specs.PlacedOf.{placed_exprs}
use Rattle.c_tree.specs.Constants.{EachLiteralIsHeld}
use Rattle.canonical_nests.specs.LoopRules.Clauses.{are_from_one_to}
use Rattle.loop_clauses.proofs.arguments.are_from_one_to.Given as goal

-- What is left decides.
abbrev pub invariant-each : goal.invariant-each
invariant-each g l =
    (are_from_one_to (g.C.Constants.defines l.constants) l.greatest (placed_exprs (drop l.e-index l.es)) ≡ are_from_one_to (g.C.Constants.defines l.constants) l.greatest (placed_exprs l.es))
    × EachLiteralIsHeld (bare_exprs (drop l.e-index l.es))
