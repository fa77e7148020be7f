-- One member more; and the parts of the one statement.
use Rattle.std.proofs.Common.{◌≡◌, ◌∙◌, ◌-◌, ◌++◌, ap, refl, sym, subst, arith, IfOk}
use Rattle.std.specs.Prelude.{◌==◌}
use Rattle.c_tree.specs.BareOf.{bare_stmt}
use Rattle.canonical_nests.proofs.HeldTrees.{good_more}
use Rattle.loop_counts.specs.Wanted.{member_of}
use Rattle.loop_counts.proofs.Parts.{pushed_more}
use Rattle.loop_counts.proofs.WantedKinds.{member_next, single_there}
use Rattle.loop_counts.proofs.shapes.+stmt_kinds.Goals as goal

pub member_kinds-each-preserved : goal.member_kinds-each-preserved
member_kinds-each-preserved t c =
    let x = c.stmt-item.result in
    let last = c.each.left - 1 == 0 in
    record {
      all =
          pushed_more _ _ _ _ _ _
          (c.in_ok-push_parts.ensures
          ∙ ap (λ zs. c.each.all.items ++ zs)
          (c.as_slice.ensures.value ∙ (c.in_ok-given.ensures.parts ∙ ap (λ v. member_of last v.defines v.state c.args.wanted (bare_stmt x)) c.each.invariant.scope)))
          (member_next c.args.scope.now.defines c.args.scope.now.state c.args.wanted c.args.stmts.now c.each.stmt-index x (c.each.left - 1) last c.each-test.true c.stmt-item.is
          (omega (arith, c.each.invariant.counted)) refl)
          c.each.invariant.all;
      scope = c.in_ok-given.ensures.scope ∙ c.each.invariant.scope;
      formed = (good_more c.args.stmts.now c.each.stmt-index x c.each-test.true c.stmt-item.is c.each.invariant.formed).1;
      counted = omega (arith, c.each.invariant.counted);
    }

pub single_kinds-returns-then-stmts-eq1-clause-parts : goal.single_kinds-returns-then-stmts-eq1-clause-parts
single_kinds-returns-then-stmts-eq1-clause-parts t c =
    subst (λ ps. IfOk c.stmt_kinds.result (λ parts. parts.items ≡ ps))
    (sym (single_there c.args.scope.now.defines c.args.scope.now.state c.args.wanted c.args.stmts.now c.index-stmts-first.result (omega arith) c.index-stmts-first.is))
    c.stmt_kinds.ensures.parts
