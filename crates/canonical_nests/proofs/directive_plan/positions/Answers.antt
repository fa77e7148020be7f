-- One position more.
use Rattle.std.proofs.Common.{◌≡◌, ◌∙◌, sym, ap, ◌+◌, ◌++◌, map, drop}
use Rattle.c_tree.specs.Placed.{expr_list}
use Rattle.c_tree.specs.PlacedOf.{placed_exprs}
use Rattle.c_tree.specs.Forget.{forget_expr}
use Rattle.c_semantics.specs.Loops.Directives.{number, before}
use Rattle.canonical_nests.proofs.Numbers.{exprs_held}
use Rattle.canonical_nests.proofs.Positions.{positions_step}
use Rattle.canonical_nests.proofs.directive_plan.positions.Goals as goal

pub each-preserved : goal.each-preserved
each-preserved g c =
    let xs = c.args.indices.now in
    let i = c.each.e-index in
    let step = positions_step (g.C.Constants.defines c.args.constants.now) (before c.args.sizes c.args.modifier.now) xs i c.e-item.result _ _ _ _ _ c.each-test.true c.e-item.is
    c.loops_before-before.ensures c.number.ensures c.in_ok-sum.ensures c.each.invariant.0 in (
      ap (λ ps. ps ++ map (λ e. before c.args.sizes c.args.modifier.now + number (g.C.Constants.defines c.args.constants.now) (forget_expr e)) (expr_list (placed_exprs (drop (i + 1) xs)))) c.in_ok-push.ensures.items ∙ step,
      (exprs_held xs i c.e-item.result c.each-test.true c.e-item.is c.each.invariant.1).1,
    )
