-- Whether a program breaks a name rule, by its tree without places.
use Rattle.std.proofs.Common.{◌≡◌, Some, None, refl, sym, subst}
use Rattle.c_tree.specs.Bare.{Program}
use Rattle.c_tree.specs.Placed as placed
use Rattle.c_tree.specs.Forget.{forget_program}
use Rattle.c_tree.specs.NameRules.BreachSets.{BreachSet, none, one, ◌&◌, HasNone, least}
use Rattle.c_tree.specs.NameRules.Programs.{breaches}
use Rattle.c_tree.specs.declared.name_rule.Breach.{Breach}
use Rattle.c_soundness.specs.NameBreaches.{BreaksNone}
use Rattle.c_soundness.proofs.Unplaced.{breaches_without_places}

least_of_none : (s : BreachSet) → HasNone s → least s ≡ None
least_of_none none h = refl
least_of_none (one b) h = absurd h
least_of_none (x & y) h = rw (least_of_none x h.0, least_of_none y h.1) refl

pub unbroken : (s : BreachSet) (b : Breach) → HasNone s → least s ≡ Some b → ⊥
unbroken s b h e = let n = least_of_none s h in cc

pub breaks_none : (bare : Program) (p : placed.Program) → bare ≡ forget_program p → HasNone (breaches p) → BreaksNone bare
breaks_none bare p same h = subst BreaksNone (sym same) ((breaches_without_places p).0 h)

pub breaks_one : (bare : Program) (p : placed.Program) (b : Breach) → bare ≡ forget_program p → least (breaches p) ≡ Some b → BreaksNone bare → ⊥
breaks_one bare p b same found h = unbroken (breaches p) b ((breaches_without_places p).1 (subst BreaksNone same h)) found
