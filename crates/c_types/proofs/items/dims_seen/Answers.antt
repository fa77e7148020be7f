-- One dimension more is one that was left.
use Rattle.std.proofs.Common.{◌≡◌, ◌∙◌, ◌==◌, arith}
use Rattle.c_tree.specs.Placed.{expr_span}
use Rattle.c_tree.specs.PlacedOf.{placed_expr}
use Rattle.c_tree.specs.NameRules.BreachSets.{least}
use Rattle.c_tree.specs.NameRules.Breaches.{breach_if}
use Rattle.c_tree.specs.NameRules.Programs.{dimension}
use Rattle.c_tree.specs.declared.name_rule.NameRule.TheVariants.{N5}
use Rattle.c_types.proofs.Dimensions.{breach_step, product_step, held_more}
use Rattle.c_types.proofs.items.dims_seen.Goals as goal

pub each-preserved : goal.each-preserved
each-preserved c =
    let s = c.args.known.now.scope in
    let xs = c.args.dims.now in
    let i = c.each.index in
    let x = c.index-dims-index.result in
    let kept = c.each.invariant in
    let wrong_is : c.breach_if-wrong.result ≡ least (breach_if (dimension s i (placed_expr x) == 0) N5 (expr_span (placed_expr x)).start) =
    c.breach_if-wrong.ensures ∙ (λ j. least (breach_if (c.dimension-asked.ensures.value j == 0) N5 (c.span.ensures j).start)) in
    record {
      breach = breach_step s xs i x c.each-test.true c.index-dims-index.is _ _ _ _ _ _ c.expr_breach.ensures wrong_is c.lesser.ensures c.lesser-breach.ensures kept.breach;
      product = product_step s xs i x c.each-test.true c.index-dims-index.is _ _ _ _ _ c.dimension-asked.ensures.value c.min-product.ensures kept.product;
      small = omega arith;
      held = (held_more xs i x c.each-test.true c.index-dims-index.is kept.held).1;
    }
