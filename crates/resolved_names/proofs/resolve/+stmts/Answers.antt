-- At its end the list is resolved.
use Rattle.resolved_names.specs.Numbering.{numbering}
use Rattle.resolved_names.proofs.Lists.{stmts_resolved}
use Rattle.resolved_names.proofs.resolve.+stmts.Goals as goal

pub resolve_stmts-returns : goal.resolve_stmts-returns
resolve_stmts-returns t c =
    stmts_resolved (numbering c.args.names.now) c.args.stmts.now c.each.resolved c.each.stmt-index c.each-test.false c.each.invariant
