-- What is added holds none.
use Rattle.template_laws.proofs.Plain.{leaf_plain, round_plain, from_zero_plain, count_plain, reverse_plain}
use Rattle.template_laws.proofs.laws.no_directive_added.Goals as goal

pub returns-clause-leaf : goal.returns-clause-leaf
returns-clause-leaf _ = leaf_plain

pub returns-clause-round : goal.returns-clause-round
returns-clause-round _ = round_plain

pub returns-clause-rebase : goal.returns-clause-rebase
returns-clause-rebase _ = from_zero_plain

pub returns-clause-count : goal.returns-clause-count
returns-clause-count _ = count_plain

pub returns-clause-reverse : goal.returns-clause-reverse
returns-clause-reverse _ = reverse_plain
