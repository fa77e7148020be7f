-- What an admitted program is.
use Rattle.c_tree.specs.Checked.{IsChecked}
use Rattle.c_tree.specs.PlacedOf.{placed_program}
use Rattle.c_tree.specs.declared.tree.Program.{Program}
use Rattle.canonical_nests.specs.LoopRules.BreachSets.{HasNone}
use Rattle.canonical_nests.specs.LoopRules.Programs.{breaches}

-- no loop rule is broken
abbrev pub BreaksNone : Program → Type 0
BreaksNone program = HasNone (breaches (placed_program program))

-- it is checked, and breaks none of the loop rules L1 to L28
pub record IsAdmitted (program : Program) : Type 0 where
  pub checked : IsChecked program
  pub no_breach : BreaksNone program
