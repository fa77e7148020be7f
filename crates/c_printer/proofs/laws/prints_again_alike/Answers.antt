-- The laws.
use Rattle.c_printer.proofs.OneReading.{same_program, same_bytes}
use Rattle.c_printer.proofs.laws.prints_again_alike.Goals as goal

pub returns-clause-program : goal.returns-clause-program
returns-clause-program c = same_program

pub returns-clause-bytes : goal.returns-clause-bytes
returns-clause-bytes c = same_bytes
