-- The structure comes before the heads and the counts.
use Rattle.c_tree.specs.PlacedOf.{placed_directive, placed_stmts}
use Rattle.canonical_nests.specs.LoopRules.BreachSets.{or_else}
use Rattle.canonical_nests.specs.LoopRules.Structure as structure
use Rattle.canonical_nests.specs.LoopRules.Heads as rules
use Rattle.canonical_nests.specs.LoopRules.Counts as counts
use Rattle.restrictions.proofs.Tiers.{tier_first}
use Rattle.restrictions.proofs.constructs.structure_breach.Goals as goal

pub returns-in-Some-clause-breach : goal.returns-in-Some-clause-breach
returns-in-Some-clause-breach c =
    let v = c.args.scope.now in
    let d = placed_directive c.args.directive.now in
    let a = placed_stmts c.args.body.now in
    tier_first (structure.construct_breaches v.defines d a) (or_else (rules.construct_breaches v.defines c.args.functions.now v.state d a) (counts.construct_breaches v.defines v.state d a))
    _ c.in-Some.breach c.in_ok-breach.ensures c.in-Some.is
