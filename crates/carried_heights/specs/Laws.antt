-- How high a program is whose constructs are carried out.
use Rattle.std.specs.Prelude.{◌≤◌}
use Rattle.c_tree.specs.Bare as bare
use Rattle.c_tree.specs.BareOf.{bare_program}
use Rattle.c_tree.specs.Checked.{most_height}
use Rattle.c_tree.specs.Height.{program_height}
use Rattle.c_tree.specs.declared.tree.Program.{Program}
use Rattle.canonical_nests.specs.Admitted.{IsAdmitted}
use Rattle.canonical_nests.specs.TallHeight.{tall_height}
use Rattle.carried_out.specs.CarriedOut.{carried_out}

-- no higher than the tall height of the source
abbrev pub CarriedOutIsNoHigher : Type 0
CarriedOutIsNoHigher = (p : bare.Program) → program_height (carried_out p) ≤ tall_height p

-- so what an admitted program becomes is no higher than a program may be
abbrev pub AdmittedCarriedOutIsLow : Type 0
AdmittedCarriedOutIsLow = (program : Program) → IsAdmitted program → program_height (carried_out (bare_program program)) ≤ most_height
