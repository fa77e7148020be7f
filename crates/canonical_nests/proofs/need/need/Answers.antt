-- The least number that serves is the need, if it is tried.
use Rattle.canonical_nests.proofs.LeastTried.{need_is}
use Rattle.canonical_nests.proofs.need.need.Goals as goal

pub returns : goal.returns
returns c = need_is c.args.plan.now c.args.wanted c.in_ok-least.least c.least_tried.result c.in_ok-least.ensures c.least_tried.ensures
