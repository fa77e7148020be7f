-- A part without a loop, or a range that ends after the last part, comes first.
use Rattle.std.proofs.Common.{◌∙◌, sym, ap}
use Rattle.std.specs.Prelude.{not}
use Rattle.canonical_nests.specs.declared.rules.LoopRule.TheVariants.{L19, L22}
use Rattle.canonical_nests.specs.LoopRules.BreachSets.{breach_if, lesser, least}
use Rattle.canonical_nests.specs.declared.plan.Plan.{out-Plan}
use Rattle.loop_structure.proofs.BodyWalks.{sequence_first}
use Rattle.loop_structure.proofs.bodies.sequence_breach.Goals as goal

pub returns-in-Some : goal.returns-in-Some
returns-in-Some c =
    let empty = c.breach_if-empty.ensures ∙ ap (λ b. least (breach_if b L22 (out-Plan c.args.plan.now).place)) c.has_zero.ensures in
    let past = c.breach_if-past.ensures ∙ ap (λ b. least (breach_if (not b) L19 c.args.range)) c.ends_within.ensures in
    sym (sequence_first c.args.plan.now c.args.range c.args.parts.now c.in-Some.breach (sym (c.in-Some.ensures ∙ (λ i. lesser (empty i) (past i)))))
