-- By the heights of their parts.
use Rattle.template_laws.proofs.Low.{leaf_low, round_low, from_zero_low, count_low, reverse_low}
use Rattle.template_laws.proofs.laws.heights_added.Goals as goal

pub returns-clause-leaf : goal.returns-clause-leaf
returns-clause-leaf _ = leaf_low

pub returns-clause-round : goal.returns-clause-round
returns-clause-round _ = round_low

pub returns-clause-rebase : goal.returns-clause-rebase
returns-clause-rebase _ = from_zero_low

pub returns-clause-count : goal.returns-clause-count
returns-clause-count _ = count_low

pub returns-clause-reverse : goal.returns-clause-reverse
returns-clause-reverse _ = reverse_low
