-- The name rules of a program whose constructs are carried out.
use Rattle.std.specs.Prelude.{◌≡◌, true}
use Rattle.c_tree.specs.Bare as bare
use Rattle.c_tree.specs.BareOf.{bare_program}
use Rattle.c_tree.specs.Placed as placed
use Rattle.c_tree.specs.Forget.{forget_program}
use Rattle.c_tree.specs.WellFormed.{WellFormed}
use Rattle.c_tree.specs.declared.tree.Program.{Program}
use Rattle.c_soundness.specs.NameBreaches.{BreaksNone}
use Rattle.canonical_nests.specs.Admitted.{IsAdmitted}
use Rattle.canonical_nests.specs.LoopRules.BreachSets.{HasNone}
use Rattle.canonical_nests.specs.LoopRules.Programs.{nest_breaches}
use Rattle.carried_out.specs.CarriedOut.{carried_out}
use Rattle.carried_out.specs.Reversible.{is_reversible_program}
use Rattle.carried_names.specs.BoundsApart.{LoopsHaveBoundsApart}

-- it breaks none of the rules N1 to N12 where the source breaks none
abbrev pub CarriedOutBreaksNone : Type 0
CarriedOutBreaksNone =
    (p : bare.Program) → WellFormed p → BreaksNone p → is_reversible_program p ≡ true → LoopsHaveBoundsApart p → BreaksNone (carried_out p)

-- the loop rules ask for such bounds
abbrev pub AdmittedHaveBoundsApart : Type 0
AdmittedHaveBoundsApart =
    (p : placed.Program) → HasNone (nest_breaches p) → is_reversible_program (forget_program p) ≡ true → LoopsHaveBoundsApart (forget_program p)

-- so of an admitted program no more is asked
abbrev pub AdmittedCarriedOutBreaksNone : Type 0
AdmittedCarriedOutBreaksNone =
    (program : Program) → IsAdmitted program → is_reversible_program (bare_program program) ≡ true → BreaksNone (carried_out (bare_program program))
