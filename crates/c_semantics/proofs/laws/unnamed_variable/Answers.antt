-- By the structure of the statement.
use Rattle.c_semantics.proofs.Apart.{without_local}
use Rattle.c_semantics.proofs.laws.unnamed_variable.Goals as goal

pub returns : goal.returns
returns c = without_local
