-- One clause more.
use Rattle.std.proofs.Common.{◌∙◌, ap}
use Rattle.c_tree.specs.PlacedOf.{placed_clause}
use Rattle.canonical_nests.specs.LoopRules.BreachSets.{least}
use Rattle.canonical_nests.proofs.Numbers.{clauses_held}
use Rattle.loop_clauses.specs.Taken.{one_clause}
use Rattle.loop_clauses.proofs.ClauseSteps.{clauses_step}
use Rattle.loop_clauses.proofs.directive.+directive_breach.Goals as goal

pub clauses_breach-each-preserved : goal.clauses_breach-each-preserved
clauses_breach-each-preserved g t c =
    let here = c.in_ok-here.ensures
    ∙ ap (λ ts. least (one_clause (g.C.Constants.defines c.args.constants.now) c.args.of.kind c.args.of.loops c.each.earlier ts (placed_clause c.clause-item.result))) c.as_slice.ensures.value in (
      clauses_step _ _ _ _ _ _ _ _ _ _ _ _ _ _ c.each-test.true c.clause-item.is here c.lesser-found.ensures c.with-earlier.ensures c.in_ok-also_take.ensures c.each.invariant.0,
      (clauses_held _ _ _ c.each-test.true c.clause-item.is c.each.invariant.1).1,
    )
