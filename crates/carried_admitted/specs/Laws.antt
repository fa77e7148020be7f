-- Which programs are carried out.
use Rattle.std.specs.Prelude.{◌≡◌, true}
use Rattle.c_tree.specs.Placed.{Program}
use Rattle.c_tree.specs.Forget.{forget_program}
use Rattle.c_tree.specs.WellFormed.{WellFormed}
use Rattle.c_tree.specs.NameRules.BreachSets as names
use Rattle.c_tree.specs.NameRules.Programs as name_rules
use Rattle.canonical_nests.specs.LoopRules.BreachSets.{HasNone}
use Rattle.canonical_nests.specs.LoopRules.Programs.{nest_breaches}
use Rattle.carried_out.specs.AllReverse.{all_reverse}
use Rattle.carried_out.specs.Reversible.{is_reversible_program}

-- a well-formed program that breaks no name rule and none of the loop rules L1 to L25 and L28, and whose directives and
-- items are all `reverse`
abbrev pub AdmittedReversals : Type 0
AdmittedReversals =
    (program : Program) → WellFormed (forget_program program) → names.HasNone (name_rules.breaches program) → HasNone (nest_breaches program) →
    all_reverse (forget_program program) ≡ true → is_reversible_program (forget_program program) ≡ true
