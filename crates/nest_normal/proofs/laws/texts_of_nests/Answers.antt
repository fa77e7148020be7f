-- By what stands below the innermost loop.
use Rattle.nest_normal.proofs.HiddenNames.{innermost_hides, round_hides, round_same}
use Rattle.nest_normal.proofs.laws.texts_of_nests.Goals as goal

pub returns-clause-hides : goal.returns-clause-hides
returns-clause-hides _ = λ m h x. ((λ as'. innermost_hides m h x as'), λ l. round_hides m h x l)

pub returns-clause-template : goal.returns-clause-template
returns-clause-template _ = λ m h front l e. round_same m h front l e
