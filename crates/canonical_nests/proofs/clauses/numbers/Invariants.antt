use Rattle.std.proofs.Common.{◌≡◌, ◌++◌, map, drop}
use Rattle.c_tree.specs.Bare.{expr_list}
use Rattle.c_tree.specs.BareOf.{bare_exprs}
use Rattle.c_tree.specs.Constants.{EachLiteralIsHeld}
use Rattle.c_semantics.specs.Loops.Directives.{number}
use Rattle.canonical_nests.proofs.clauses.numbers.Given as goal

-- The numbers so far and those that are left are all.
abbrev pub invariant-each : goal.invariant-each
invariant-each g l =
    (l.values.items ++ map (number (g.C.Constants.defines l.constants)) (expr_list (bare_exprs (drop l.e-index l.es)))
    ≡ map (number (g.C.Constants.defines l.constants)) (expr_list (bare_exprs l.es)))
    × EachLiteralIsHeld (bare_exprs (drop l.e-index l.es))
