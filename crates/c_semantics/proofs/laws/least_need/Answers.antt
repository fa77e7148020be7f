-- By the search.
use Rattle.c_semantics.proofs.LeastNeed.{least_need}
use Rattle.c_semantics.proofs.laws.least_need.Goals as goal

pub returns : goal.returns
returns c = least_need
