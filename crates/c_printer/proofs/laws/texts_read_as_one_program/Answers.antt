-- The law.
use Rattle.c_printer.proofs.OneReading.{one_reading}
use Rattle.c_printer.proofs.laws.texts_read_as_one_program.Goals as goal

pub returns : goal.returns
returns c = one_reading
