-- The rules of constructs come before the bounds on programs.
use Rattle.c_tree.specs.PlacedOf.{placed_program}
use Rattle.canonical_nests.specs.LoopRules.BreachSets.{or_else}
use Rattle.canonical_nests.specs.LoopRules.Programs as programs
use Rattle.restrictions.proofs.Tiers.{tier_first}
use Rattle.restrictions.proofs.admit.least_breach.Goals as goal

pub returns-in-Some : goal.returns-in-Some
returns-in-Some c =
    let p = placed_program c.args.program.now in
    let first = programs.first_directive p in
    tier_first (programs.nest_breaches p) (or_else (programs.height_breaches first p) (programs.weight_breaches first p)) _ c.in-Some.breach c.in_ok-breach.ensures c.in-Some.is
