-- By the structure of the statement.
use Rattle.c_semantics.proofs.Apart.{without_global}
use Rattle.c_semantics.proofs.laws.unnamed_file_variable.Goals as goal

pub returns : goal.returns
returns c = without_global
