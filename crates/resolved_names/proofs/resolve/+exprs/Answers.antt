-- At its end the list is resolved.
use Rattle.resolved_names.specs.Numbering.{numbering}
use Rattle.resolved_names.proofs.Lists.{exprs_resolved}
use Rattle.resolved_names.proofs.resolve.+exprs.Goals as goal

pub resolve_exprs-returns : goal.resolve_exprs-returns
resolve_exprs-returns t c =
    exprs_resolved (numbering c.args.names.now) c.args.es.now c.each.resolved c.each.e-index c.each-test.false c.each.invariant
