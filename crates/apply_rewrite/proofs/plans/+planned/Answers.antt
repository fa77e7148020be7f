-- One item more.
use Rattle.loop_normal.specs.GenOf.{bare_gen}
use Rattle.apply_rewrite.proofs.PlanWalks.{items_step}
use Rattle.apply_rewrite.proofs.plans.+planned.Goals as goal

pub items_applied-each-preserved : goal.items_applied-each-preserved
items_applied-each-preserved t c =
    items_step c.args.items.now c.each.item-index c.item-item.result (record { tree = bare_gen c.each.code; left = c.each.fresh })
    (record { tree = bare_gen c.in_ok-code.code; left = c.planned.new.fresh }) _ c.each-test.true c.item-item.is
    c.in_ok-code.ensures.tree c.in_ok-code.ensures.left c.each.invariant
