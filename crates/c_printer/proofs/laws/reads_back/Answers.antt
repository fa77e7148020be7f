-- The law, as proved over layouts.
use Rattle.c_printer.proofs.ReadsBack.{reads_back}
use Rattle.c_printer.proofs.laws.reads_back.Goals as goal

pub returns : goal.returns
returns c = reads_back
