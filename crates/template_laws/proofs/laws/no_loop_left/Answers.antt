-- What is added has no `break`.
use Rattle.template_laws.proofs.StayedIn.{leaf_stays, round_stays, from_zero_stays, count_stays, reverse_stays}
use Rattle.template_laws.proofs.laws.no_loop_left.Goals as goal

pub returns-clause-leaf : goal.returns-clause-leaf
returns-clause-leaf _ = leaf_stays

pub returns-clause-round : goal.returns-clause-round
returns-clause-round _ = round_stays

pub returns-clause-rebase : goal.returns-clause-rebase
returns-clause-rebase _ = from_zero_stays

pub returns-clause-count : goal.returns-clause-count
returns-clause-count _ = count_stays

pub returns-clause-reverse : goal.returns-clause-reverse
returns-clause-reverse _ = reverse_stays
