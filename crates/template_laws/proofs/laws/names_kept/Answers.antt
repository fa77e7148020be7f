-- What names the code sees in the place of the old.
use Rattle.template_laws.proofs.Drawn.{drawn_are_apart}
use Rattle.template_laws.proofs.NormalNames.{leaf_breaks_none, round_breaks_none}
use Rattle.template_laws.proofs.NoBreaches.{rebase_breaks_none, count_breaks_none, reverse_breaks_none}
use Rattle.template_laws.proofs.laws.names_kept.Goals as goal

pub returns-clause-drawn : goal.returns-clause-drawn
returns-clause-drawn _ = drawn_are_apart

pub returns-clause-leaf : goal.returns-clause-leaf
returns-clause-leaf _ = leaf_breaks_none

pub returns-clause-round : goal.returns-clause-round
returns-clause-round _ = round_breaks_none

pub returns-clause-rebase : goal.returns-clause-rebase
returns-clause-rebase _ = rebase_breaks_none

pub returns-clause-count : goal.returns-clause-count
returns-clause-count _ = λ in_function in_loop s f d k. count_breaks_none in_function in_loop s f d k

pub returns-clause-reverse : goal.returns-clause-reverse
returns-clause-reverse _ = reverse_breaks_none
