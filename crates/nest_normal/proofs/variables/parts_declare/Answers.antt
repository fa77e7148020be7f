-- The first part that declares the name decides.
use Rattle.std.proofs.Common.{◌≡◌, sym, ap, ◌∙◌, ◌+◌, drop, true, false}
use Rattle.std.specs.Prelude.{if◌then◌else◌}
use Rattle.loop_normal.specs.Gens.{parts_stmts}
use Rattle.loop_normal.specs.GenOf.{bare_part, bare_parts}
use Rattle.nest_normal.specs.NestTexts.{declares, part_declares}
use Rattle.nest_normal.proofs.Lists.{parts_more}
use Rattle.nest_normal.proofs.variables.parts_declare.Goals as goal

pub returns-then-part_declares : goal.returns-then-part_declares
returns-then-part_declares c =
    let x = c.args.name.now in
    let ps = c.args.parts.now in
    let i = c.each.part-index in
    let here : part_declares x (bare_part c.part-item.result) ≡ true = sym c.part_declares.ensures ∙ c.if-part_declares.true in
    sym (ap (λ t. if t then true else declares x (parts_stmts (bare_parts (drop (i + 1) ps)))) here) ∙ sym (parts_more x ps i c.part-item.result c.each-test.true c.part-item.is) ∙ c.each.invariant

pub each-preserved : goal.each-preserved
each-preserved c =
    let x = c.args.name.now in
    let ps = c.args.parts.now in
    let i = c.each.part-index in
    let not_here : part_declares x (bare_part c.part-item.result) ≡ false = sym c.part_declares.ensures ∙ c.if-part_declares.false in
    sym (ap (λ t. if t then true else declares x (parts_stmts (bare_parts (drop (i + 1) ps)))) not_here) ∙ sym (parts_more x ps i c.part-item.result c.each-test.true c.part-item.is) ∙ c.each.invariant
