-- The clauses come before the other tiers.
use Rattle.c_tree.specs.PlacedOf.{placed_directive, placed_stmts}
use Rattle.canonical_nests.specs.LoopRules.BreachSets.{or_else}
use Rattle.canonical_nests.specs.LoopRules.Structure as structure
use Rattle.canonical_nests.specs.LoopRules.Heads as rules
use Rattle.canonical_nests.specs.LoopRules.Counts as counts
use Rattle.canonical_nests.specs.LoopRules.Programs as programs
use Rattle.restrictions.proofs.Tiers.{tier_second}
use Rattle.restrictions.proofs.constructs.construct_breach.Goals as goal

pub returns-in_ok-below-in-None-clause-breach : goal.returns-in_ok-below-in-None-clause-breach
returns-in_ok-below-in-None-clause-breach c =
    let v = c.args.scope.now in
    let d = placed_directive c.args.directive.now in
    let a = placed_stmts c.args.body.now in
    tier_second (programs.clause_breaches v.defines d a)
    (or_else (structure.construct_breaches v.defines d a) (or_else (rules.construct_breaches v.defines c.args.functions.now v.state d a) (counts.construct_breaches v.defines v.state d a)))
    _ c.in_ok-below-in-None.below c.in_ok-breach.ensures c.in-None.is c.in_ok-below-in-None.ensures.breach
