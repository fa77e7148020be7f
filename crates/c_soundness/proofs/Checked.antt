-- The bare tree of a checked program.
use Rattle.std.proofs.Common.{◌≡◌, sym, subst}
use Rattle.c_tree.specs.BareOf.{bare_program}
use Rattle.c_tree.specs.PlacedOf.{placed_program}
use Rattle.c_tree.specs.Checked.{IsChecked}
use Rattle.c_tree.specs.declared.tree.Program.{Program}
use Rattle.c_tree.proofs.Forgotten.Programs.{bare_program_is}
use Rattle.c_soundness.specs.NameBreaches.{BreaksNone}
use Rattle.c_soundness.specs.NeverStuck.{IsNeverStuck}
use Rattle.c_soundness.proofs.Soundness.{never_stuck}
use Rattle.c_soundness.proofs.Unplaced.{breaches_without_places}

pub breaks_none : (program : Program) → IsChecked program → BreaksNone (bare_program program)
breaks_none program c = subst BreaksNone (sym (bare_program_is program)) ((breaches_without_places (placed_program program)).0 c.no_breach)

pub is_never_stuck : (program : Program) → IsChecked program → IsNeverStuck (bare_program program)
is_never_stuck program c = never_stuck (bare_program program) c.well_formed (breaks_none program c)
