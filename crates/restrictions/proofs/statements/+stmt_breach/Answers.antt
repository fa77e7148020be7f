-- A loop's body, a construct, the branches of an `if`, and one statement more.
use Rattle.std.proofs.Common.{◌∙◌, sym, ap}
use Rattle.c_tree.specs.BareOf.{bare_stmt}
use Rattle.c_tree.specs.PlacedOf.{placed_directive, placed_head, placed_stmts}
use Rattle.c_tree.specs.Forget.{forget_directive}
use Rattle.c_semantics.specs.Loops.Directives.{plan_of}
use Rattle.c_semantics.specs.Loops.Need.{loops_asked}
use Rattle.canonical_nests.specs.LoopRules.BreachSets.{least, lesser}
use Rattle.canonical_nests.specs.LoopRules.Programs.{stmts_breaches}
use Rattle.canonical_nests.proofs.HeldTrees.{good_more}
use Rattle.restrictions.specs.Walks.{for_state}
use Rattle.restrictions.proofs.Visibility.{state_step, defines_step, outside_step, deep_step}
use Rattle.restrictions.proofs.Walks.{list_step, at_both}
use Rattle.restrictions.proofs.statements.+stmt_breach.Goals as goal

pub loop_breach-returns-clause-breach : goal.loop_breach-returns-clause-breach
loop_breach-returns-clause-breach t c =
    let fs = c.args.functions.now in
    let a = placed_stmts c.args.body.now in
    c.in_ok-below.ensures.breach
    ∙ (ap (λ v. least (stmts_breaches v.defines fs v.state c.saturating_sub.result a)) c.in_ok-enter_loop.ensures
    ∙ ap (λ n. least (stmts_breaches c.args.scope.now.defines fs (for_state c.args.scope.now.defines c.args.scope.now.state c.args.wanted (placed_head c.args.head.now)) n a)) c.saturating_sub.ensures)

pub omp_breach-returns-clause-breach : goal.omp_breach-returns-clause-breach
omp_breach-returns-clause-breach t c =
    let fs = c.args.functions.now in
    let v = c.args.scope.now in
    let d = c.args.directive.now in
    let a = placed_stmts c.args.body.now in
    let asked = c.in_ok-asked.ensures ∙ ap (λ w. loops_asked (plan_of w.defines (forget_directive (placed_directive d))) c.args.wanted) c.in_ok-own.ensures.scope in
    let below =
    c.in_ok-below.ensures.breach
    ∙ (ap (λ w. least (stmts_breaches w.defines fs w.state c.in_ok-asked.asked a)) c.in_ok-own.ensures.scope
    ∙ ap (λ n. least (stmts_breaches v.defines fs v.state n a)) asked) in
    c.lesser.ensures ∙ (λ i. lesser (c.in_ok-own.ensures.breach i) (below i))

pub stmt_breach-returns-in_ok-second-in-Some-clause-breach : goal.stmt_breach-returns-in_ok-second-in-Some-clause-breach
stmt_breach-returns-in_ok-second-in-Some-clause-breach t c =
    let fs = c.args.functions.now in
    let v = c.args.scope.now in
    let i = c.in-If in
    let first = c.in_ok-first-in-If.ensures.breach ∙ ap (λ xs. least (stmts_breaches v.defines fs v.state 0 (placed_stmts xs))) c.as_slice.ensures in
    let second =
    c.in_ok-second-in-Some.ensures.breach
    ∙ (ap (λ w. least (stmts_breaches w.defines fs w.state 0 (placed_stmts c.as_slice-in-Some.result.now))) c.in_ok-first-in-If.ensures.scope
    ∙ ap (λ xs. least (stmts_breaches v.defines fs v.state 0 (placed_stmts xs))) c.as_slice-in-Some.ensures) in
    c.lesser.ensures
    ∙ ((λ j. lesser (first j) (second j))
    ∙ sym (ap least (at_both v.defines fs v.state c.args.wanted c.args.stmt.now i.test i.yes c.in-Some.no i.no i.span i.is c.in-Some.is)))

pub stmts_breach-each-preserved : goal.stmts_breach-each-preserved
stmts_breach-each-preserved t c =
    let fs = c.args.functions.now in
    let v0 = c.args.scope.now in
    let v = c.each.scope in
    let v1 = c.stmt_breach.new.scope in
    let v2 = c.declare.new.scope in
    let x = c.stmt-item.result in
    let xs = c.args.stmts.now in
    let same = c.in_ok-here.ensures.scope in
    let after = c.in_ok-declare.ensures in
    record {
      all = list_step v.defines v0.defines fs v.state v2.state c.args.wanted xs c.each.stmt-index x c.each.found c.in_ok-here.here c.lesser-found.result _
          c.each-test.true c.stmt-item.is c.each.invariant.defines c.in_ok-here.ensures.breach c.lesser-found.ensures (state_step v0 v v1 v2 (bare_stmt x) same after) c.each.invariant.all;
      defines = defines_step v0 v v1 v2 (bare_stmt x) same after c.each.invariant.defines;
      outside = outside_step v0 v v1 v2 (bare_stmt x) same after c.len-round.result c.each.invariant.deep c.each.invariant.outside;
      deep = deep_step v0 v v1 v2 (bare_stmt x) same after c.len-round.result c.each.invariant.deep;
      formed = (good_more xs c.each.stmt-index x c.each-test.true c.stmt-item.is c.each.invariant.formed).1;
    }
