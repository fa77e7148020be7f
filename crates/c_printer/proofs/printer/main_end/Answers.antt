-- By computing.
use Rattle.std.proofs.Common.{refl}
use Rattle.std.specs.Fmt.{digits}
use Rattle.c_printer.proofs.printer.main_end.Goals as goal

pub returns : goal.returns
unfolding digits
returns c = refl
