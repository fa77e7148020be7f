-- A construct: its own breaches, and those of the directives that it takes. One statement more.
use Rattle.std.proofs.Common.{◌∙◌, ap, sym}
use Rattle.c_tree.specs.BareOf.{bare_stmts}
use Rattle.c_tree.specs.PlacedOf.{placed_stmts}
use Rattle.c_semantics.specs.Loops.Need.{loops_asked}
use Rattle.canonical_nests.specs.Shapes.{found_by, single_kinds, member_kinds}
use Rattle.canonical_nests.specs.Plans.{seen_plan}
use Rattle.canonical_nests.specs.LoopRules.BreachSets.{least}
use Rattle.canonical_nests.specs.LoopRules.Counts.{plan_breaches, stmts_breaches}
use Rattle.loop_counts.proofs.ConstructBreaches.{construct_is, kind_is}
use Rattle.loop_counts.proofs.construct.+stmt_breach.Goals as goal

pub construct_breach-returns-clause-breach : goal.construct_breach-returns-clause-breach
construct_breach-returns-clause-breach t c =
    let ds = c.args.scope.now.defines in
    let s = c.args.scope.now.state in
    let m = c.args.wanted in
    let n = c.in_ok-asked.asked in
    let d = c.args.directive.now in
    let body = c.args.body.now in
    let p = seen_plan c.in_ok-plan.plan in
    let asked = c.in_ok-asked.ensures ∙ ap (λ q. loops_asked q m) c.in_ok-plan.ensures.bare in
    let found =
    c.in_ok-found.ensures.parts
    ∙ ap (λ k. found_by k (single_kinds ds s n (bare_stmts body)) (member_kinds ds s n (bare_stmts body))) (sym (kind_is d)) in
    let own = c.in_ok-own.ensures ∙ ap (λ ps. least (plan_breaches p 0 ps)) c.as_slice.ensures.value in
    let inner = c.in_ok-inner.ensures.breach ∙ ap (λ v. least (stmts_breaches v.defines v.state n (placed_stmts body))) c.in_ok-found.ensures.scope in
    c.lesser.ensures
    ∙ construct_is ds s m n d body p c.in_ok-found.found.items c.in_ok-own.own c.in_ok-inner.inner
    c.in_ok-plan.ensures.placed asked found own inner
