-- The heads come before the counts.
use Rattle.std.proofs.Common.{◌∙◌, ap}
use Rattle.c_tree.specs.PlacedOf.{placed_directive, placed_stmts}
use Rattle.canonical_nests.specs.LoopRules.BreachSets.{least}
use Rattle.canonical_nests.specs.LoopRules.Heads as rules
use Rattle.canonical_nests.specs.LoopRules.Counts as counts
use Rattle.restrictions.proofs.Tiers.{tier_first, tier_second}
use Rattle.restrictions.proofs.constructs.late_breach.Goals as goal

pub returns-in-Some-clause-breach : goal.returns-in-Some-clause-breach
returns-in-Some-clause-breach c =
    let v = c.args.scope.now in
    let d = placed_directive c.args.directive.now in
    let a = placed_stmts c.args.body.now in
    tier_first (rules.construct_breaches v.defines c.args.functions.now v.state d a) (counts.construct_breaches v.defines v.state d a) _ c.in-Some.breach
    c.in_ok-breach.ensures.breach c.in-Some.is

pub returns-in_ok-below-in-None-clause-breach : goal.returns-in_ok-below-in-None-clause-breach
returns-in_ok-below-in-None-clause-breach c =
    let v = c.args.scope.now in
    let d = placed_directive c.args.directive.now in
    let a = placed_stmts c.args.body.now in
    tier_second (rules.construct_breaches v.defines c.args.functions.now v.state d a) (counts.construct_breaches v.defines v.state d a) _ c.in_ok-below-in-None.below
    c.in_ok-breach.ensures.breach c.in-None.is
    (c.in_ok-below-in-None.ensures.breach ∙ ap (λ w. least (counts.construct_breaches w.defines w.state d a)) c.in_ok-breach.ensures.scope)
