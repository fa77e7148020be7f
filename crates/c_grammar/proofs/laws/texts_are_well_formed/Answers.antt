use Rattle.c_grammar.proofs.WellFormed.{texts_are_well_formed}
use Rattle.c_grammar.proofs.laws.texts_are_well_formed.Goals as goal

pub returns : goal.returns
returns c = texts_are_well_formed
