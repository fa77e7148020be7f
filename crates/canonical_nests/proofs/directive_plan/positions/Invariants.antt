use Rattle.std.proofs.Common.{◌≡◌, ◌+◌, ◌++◌, map, drop}
use Rattle.c_tree.specs.Placed.{expr_list}
use Rattle.c_tree.specs.PlacedOf.{placed_exprs}
use Rattle.c_tree.specs.BareOf.{bare_exprs}
use Rattle.c_tree.specs.Forget.{forget_expr}
use Rattle.c_tree.specs.Constants.{EachLiteralIsHeld}
use Rattle.c_semantics.specs.Loops.Directives.{number, before}
use Rattle.canonical_nests.proofs.directive_plan.positions.Given as goal

-- The positions so far and those that are left are all.
abbrev pub invariant-each : goal.invariant-each
invariant-each g l =
    (l.positions.items ++ map (λ e. before l.sizes l.modifier + number (g.C.Constants.defines l.constants) (forget_expr e)) (expr_list (placed_exprs (drop l.e-index l.indices)))
    ≡ map (λ e. before l.sizes l.modifier + number (g.C.Constants.defines l.constants) (forget_expr e)) (expr_list (placed_exprs l.indices)))
    × EachLiteralIsHeld (bare_exprs (drop l.e-index l.indices))
