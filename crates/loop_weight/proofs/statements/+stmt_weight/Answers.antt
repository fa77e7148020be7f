-- An `if` with `else`; a loop and its body; a construct; and one statement more.
use Rattle.std.proofs.Common.{◌∙◌, ◌+◌, ap, sym, min, arith}
use Rattle.c_tree.specs.BareOf.{bare_directive, bare_expr, bare_head, bare_stmt, bare_stmts}
use Rattle.c_tree.specs.declared.tree.Stmt.TheVariants as v
use Rattle.canonical_nests.specs.LoopRules.PlacedPlans.{forget_plan}
use Rattle.canonical_nests.specs.Plans.{seen_plan}
use Rattle.canonical_nests.specs.Shapes.{found_by, single_kinds, member_kinds}
use Rattle.canonical_nests.specs.Weight.{copies, expr_weight, stmts_weight, asked_below}
use Rattle.canonical_nests.proofs.HeldTrees.{good_more}
use Rattle.loop_counts.specs.Wanted.{in_head}
use Rattle.loop_counts.proofs.ConstructBreaches.{kind_is}
use Rattle.loop_weight.proofs.Constructs.{construct_is}
use Rattle.loop_weight.proofs.Scopes.{asked_is, all_step, defines_step, outside_step, deep_step}
use Rattle.loop_weight.proofs.Choices.{bare_choice, bare_loop, choice_is, loop_weight_is}
use Rattle.loop_weight.proofs.statements.+stmt_weight.Goals as goal

pub body_weight-returns-clause-weight : goal.body_weight-returns-clause-weight
body_weight-returns-clause-weight t c =
    let ds = c.args.scope.now.defines in
    let a = bare_stmts c.args.body.now in
    let inside = in_head (bare_head c.args.head.now) c.args.scope.now.state in
    c.in_ok-weight.ensures.weight
    ∙ (ap (λ v. min (stmts_weight v.defines v.state c.saturating_sub.result a) 1048577) c.in_ok-enter.ensures
    ∙ ap (λ n. min (stmts_weight ds inside n a) 1048577) (c.saturating_sub.ensures ∙ sym (asked_is c.args.wanted)))

pub omp_weight-returns-clause-weight : goal.omp_weight-returns-clause-weight
omp_weight-returns-clause-weight t c =
    let ds = c.args.scope.now.defines in
    let s = c.args.scope.now.state in
    let m = c.args.wanted in
    let n = c.in_ok-asked.asked in
    let d = bare_directive c.args.directive.now in
    let a = bare_stmts c.args.body.now in
    let p = forget_plan (seen_plan c.in_ok-plan.plan) in
    let found =
    c.in_ok-found.ensures.parts
    ∙ ap (λ k. found_by k (single_kinds ds s n a) (member_kinds ds s n a)) (sym (kind_is c.args.directive.now)) in
    let times = c.in_ok-times_copied.ensures ∙ ap (λ ps. min (copies p 0 ps) 1048577) c.as_slice.ensures.value in
    let inner = c.in_ok-inner.ensures.weight ∙ ap (λ v. min (stmts_weight v.defines v.state n a) 1048577) c.in_ok-found.ensures.scope in
    construct_is ds s m n d a p c.in_ok-found.found.items c.in_ok-times_copied.times_copied c.in_ok-inner.inner
    c.added_weight.result c.plus.result c.times.result
    c.in_ok-plan.ensures.bare c.in_ok-asked.ensures found times inner c.added_weight.ensures c.plus.ensures c.times.ensures

pub stmt_weight-returns-in_ok-stmts_weight-in-Some-clause-weight : goal.stmt_weight-returns-in_ok-stmts_weight-in-Some-clause-weight
stmt_weight-returns-in_ok-stmts_weight-in-Some-clause-weight t c =
    let ds = c.args.scope.now.defines in
    let s = c.args.scope.now.state in
    let w = c.in-If in
    let e = bare_expr w.test in
    let is = bare_choice c.args.stmt.now w.test w.yes c.in-Some.no w.span (w.is ∙ ap (λ o. v.If w.test w.yes o w.span) c.in-Some.is) in
    let both = c.in_ok-both-in-If.ensures.weight ∙ ap (λ xs. min (1 + expr_weight e + stmts_weight ds s 0 (bare_stmts xs)) 1048577) c.as_slice.ensures in
    let same = c.in_ok-both-in-If.ensures.scope in
    let other =
    c.in_ok-stmts_weight-in-Some.ensures.weight
    ∙ (λ j. min (stmts_weight (same j).defines (same j).state 0 (bare_stmts (c.as_slice-in-Some.ensures j))) 1048577) in
    choice_is ds s c.args.wanted e (bare_stmts w.yes) (bare_stmts c.in-Some.no) (bare_stmt c.args.stmt.now)
    c.in_ok-both-in-If.both c.in_ok-stmts_weight-in-Some.field-0 c.plus.result is both other c.plus.ensures

pub stmt_weight-returns-in_ok-body-in-For-clause-weight : goal.stmt_weight-returns-in_ok-body-in-For-clause-weight
stmt_weight-returns-in_ok-body-in-For-clause-weight t c =
    let w = c.in-For in
    let h = bare_head w.head in
    let m = c.args.wanted in
    let is = bare_loop c.args.stmt.now w.head w.body w.span w.is in
    let same = c.in_ok-head_weight-in-For.ensures.scope in
    let inner =
    c.in_ok-body-in-For.ensures.weight
    ∙ (λ j. min (stmts_weight (same j).defines (in_head h (same j).state) (asked_below m) (bare_stmts (c.as_slice-in-For.ensures j))) 1048577) in
    loop_weight_is c.args.scope.now.defines c.args.scope.now.state m h (bare_stmts w.body) (bare_stmt c.args.stmt.now)
    c.in_ok-head_weight-in-For.head_weight c.in_ok-body-in-For.body c.plus-in-For.result is
    c.in_ok-head_weight-in-For.ensures.weight inner c.plus-in-For.ensures

pub stmts_weight-each-preserved : goal.stmts_weight-each-preserved
stmts_weight-each-preserved t c =
    let v0 = c.args.scope.now in
    let v = c.each.scope in
    let v1 = c.stmt_weight.new.scope in
    let v2 = c.declare.new.scope in
    let m = c.args.wanted in
    let xs = c.args.stmts.now in
    let i = c.each.stmt-index in
    let x = c.stmt-item.result in
    let same = c.in_ok-stmt_weight.ensures.scope in
    let after = c.in_ok-declare.ensures in
    let known = c.each.invariant.defines in
    let deep = c.each.invariant.deep in
    record {
      all =
          all_step v0 v v1 v2 m xs i x same after known c.each.all c.in_ok-stmt_weight.field-0 c.plus-all.result _
          c.each-test.true c.stmt-item.is c.in_ok-stmt_weight.ensures.weight c.plus-all.ensures c.each.invariant.all;
      within = omega (arith, c.plus-all.ensures);
      defines = defines_step v0 v v1 v2 m xs i x same after known;
      outside = outside_step v0 v v1 v2 m xs i x same after known c.len-len.result deep c.each.invariant.outside;
      deep = deep_step v0 v v1 v2 m xs i x same after known c.len-len.result deep;
      formed = (good_more xs i x c.each-test.true c.stmt-item.is c.each.invariant.formed).1;
    }
