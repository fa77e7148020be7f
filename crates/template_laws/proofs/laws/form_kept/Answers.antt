-- What is added is well formed.
use Rattle.template_laws.proofs.Drawn.{drawn_are_names}
use Rattle.template_laws.proofs.WellFormed.{leaf_well, round_well, from_zero_well, count_well, reverse_well}
use Rattle.template_laws.proofs.laws.form_kept.Goals as goal

pub returns-clause-names : goal.returns-clause-names
returns-clause-names _ = drawn_are_names

pub returns-clause-leaf : goal.returns-clause-leaf
returns-clause-leaf _ = leaf_well

pub returns-clause-round : goal.returns-clause-round
returns-clause-round _ = round_well

pub returns-clause-rebase : goal.returns-clause-rebase
returns-clause-rebase _ = from_zero_well

pub returns-clause-count : goal.returns-clause-count
returns-clause-count _ = count_well

pub returns-clause-reverse : goal.returns-clause-reverse
returns-clause-reverse _ = reverse_well
