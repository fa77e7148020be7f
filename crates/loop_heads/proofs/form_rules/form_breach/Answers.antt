use Rattle.std.proofs.Common.{◌∙◌, sym, ap}
use Rattle.canonical_nests.specs.LoopRules.BreachSets.{least, breach_if}
use Rattle.canonical_nests.specs.declared.rules.LoopRule.TheVariants.{L4}
use Rattle.c_tree.specs.declared.tree.ForHead.{out-ForHead}
use Rattle.loop_heads.proofs.HeadForms.{no_test, step_left}
use Rattle.loop_counts.specs.Heads.{seen_init}
use Rattle.loop_heads.proofs.form_rules.form_breach.Goals as goal

pub returns-then-has_no_test : goal.returns-then-has_no_test
returns-then-has_no_test c =
    let e = no_test c.args.scope.now.defines c.args.head.now (seen_init c.in-Some.init) (cc) (cc) in
    cc

pub returns-else-has_no_test : goal.returns-else-has_no_test
returns-else-has_no_test c =
    let e = step_left c.args.scope.now.defines c.args.head.now (seen_init c.in-Some.init) (cc) (cc) in
    c.breach_if-in-Some.ensures ∙ (ap (λ b. least (breach_if b L4 (out-ForHead c.args.head.now).step_at)) c.is_not_canonical.ensures ∙ sym e)
