-- What a checked program is.
use Rattle.std.specs.Prelude.{ℕ, ◌≡◌, ◌≤◌, []}
use Rattle.c_tree.specs.BareOf.{bare_program}
use Rattle.c_tree.specs.PlacedOf.{placed_program}
use Rattle.c_tree.specs.Height.{program_height}
use Rattle.c_tree.specs.WellFormed.{WellFormed}
use Rattle.c_tree.specs.NameRules.BreachSets.{HasNone}
use Rattle.c_tree.specs.NameRules.Programs.{breaches}
use Rattle.c_tree.specs.declared.tree.Program.{Program}

-- the greatest height that a program may have
abbrev pub most_height : ℕ
most_height = 256

-- it is one that a text can spell, breaks no name rule, and isn't nested too deeply
pub record IsChecked (program : Program) : Type 0 where
  pub well_formed : WellFormed (bare_program program)
  pub no_breach : HasNone (breaches (placed_program program))
  pub height : program_height (bare_program program) ≤ most_height
