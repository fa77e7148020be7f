-- What `check` answers.
use Rattle.std.specs.Prelude.{◌≡◌, Some}
use Rattle.c_tree.specs.NameRules.BreachSets.{BreachSet, least}
use Rattle.c_types.specs.declared.check.CheckFault.{CheckFault}
use Rattle.c_types.specs.declared.check.CheckFault.TheVariants.{At, Memory}

-- a refusal that isn't want of memory names the least breach
abbrev pub NamesLeast : BreachSet → CheckFault → Type 0
NamesLeast breaches (At rule place) = least breaches ≡ Some (record { place = place; rule = rule })
NamesLeast breaches Memory = Unit {0}
