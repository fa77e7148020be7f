-- By the structure of the program.
use Rattle.c_semantics.proofs.FileVariables.{without_untouched}
use Rattle.c_semantics.proofs.laws.untouched_file_variable.Goals as goal

pub returns : goal.returns
returns c = without_untouched
