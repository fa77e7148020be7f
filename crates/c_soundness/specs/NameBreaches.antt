-- Whether a program breaks a name rule doesn't depend on the places of its tree.
use Rattle.std.specs.Prelude.{◌↔◌}
use Rattle.c_tree.specs.Bare as b
use Rattle.c_tree.specs.Placed as p
use Rattle.c_tree.specs.Forget.{forget_program}
use Rattle.c_tree.specs.NameRules.BreachSets.{HasNone}
use Rattle.c_tree.specs.NameRules.Programs.{breaches}
use Rattle.c_soundness.specs.Unplaced.{unplaced}

-- a bare program breaks none of the rules N1 to N12
abbrev pub BreaksNone : b.Program → Type 0
BreaksNone program = HasNone (breaches (unplaced program))

abbrev pub BreachesWithoutPlaces : Type 0
BreachesWithoutPlaces = (program : p.Program) → HasNone (breaches program) ↔ BreaksNone (forget_program program)
