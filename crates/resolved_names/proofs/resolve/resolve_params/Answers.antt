-- At its end the list is resolved.
use Rattle.resolved_names.specs.Numbering.{numbering}
use Rattle.resolved_names.proofs.Lists.{params_resolved}
use Rattle.resolved_names.proofs.resolve.resolve_params.Goals as goal

pub returns : goal.returns
returns c =
    params_resolved (numbering c.args.names.now) c.args.params.now c.each.resolved c.each.param-index c.each-test.false c.each.invariant
