-- At its end the list is resolved.
use Rattle.resolved_names.specs.Numbering.{numbering}
use Rattle.resolved_names.proofs.Lists.{items_resolved}
use Rattle.resolved_names.proofs.resolve.resolve_items.Goals as goal

pub returns : goal.returns
returns c =
    items_resolved (numbering c.args.names.now) c.args.items.now c.each.resolved c.each.item-index c.each-test.false c.each.invariant
