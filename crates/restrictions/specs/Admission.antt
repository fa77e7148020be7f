-- What `admit` answers.
use Rattle.std.specs.Prelude.{◌≡◌, Some}
use Rattle.c_tree.specs.Placed.{Program}
use Rattle.canonical_nests.specs.LoopRules.BreachSets.{least}
use Rattle.canonical_nests.specs.LoopRules.Programs.{breaches}
use Rattle.restrictions.specs.declared.admit.Breach.{Breach}
use Rattle.restrictions.specs.declared.admit.Breach.TheVariants.{At, Memory}

-- a refusal that isn't want of memory names the breach that the program is refused by
abbrev pub IsLeast : Breach → Program → Type 0
IsLeast (At rule place) p = least (breaches p) ≡ Some (record { place = place; rule = rule })
IsLeast Memory p = Unit {0}
