-- By the structure of the statements.
use Rattle.restrictions.proofs.AlikeFunctions.{same_stmts}
use Rattle.restrictions.proofs.laws.breaches_of_alike_functions.Goals as goal

pub returns : goal.returns
returns c = λ ds fs gs s m a alike. same_stmts ds fs gs alike s m a
