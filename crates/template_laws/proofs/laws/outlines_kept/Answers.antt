-- Declarations show nothing.
use Rattle.template_laws.proofs.Shown.{leaf_shows, round_shows, from_zero_shows, count_shows, reverse_shows}
use Rattle.template_laws.proofs.laws.outlines_kept.Goals as goal

pub returns-clause-leaf : goal.returns-clause-leaf
returns-clause-leaf _ = λ ds s m h body k. leaf_shows ds s m h body k

pub returns-clause-round : goal.returns-clause-round
returns-clause-round _ = λ ds s m h g k. round_shows ds s m h g k

pub returns-clause-rebase : goal.returns-clause-rebase
returns-clause-rebase _ = λ ds s f g h. from_zero_shows ds s f g h

pub returns-clause-count : goal.returns-clause-count
returns-clause-count _ = λ ds s d k r g h. count_shows ds s d k r g h

pub returns-clause-reverse : goal.returns-clause-reverse
returns-clause-reverse _ = λ ds s r f g h. reverse_shows ds s r f g h
