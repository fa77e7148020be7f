-- The answer is the source carried out, which is a checked program and does the same.
use Rattle.std.proofs.Common.{◌≡◌, ap, ◌∙◌, rules}
use Rattle.c_tree.specs.BareOf.{bare_program}
use Rattle.carried_out.specs.CarriedOut.{carried_out}
use Rattle.apply_rewrite.proofs.Admitted.{Stands, stands}
use Rattle.apply_rewrite.proofs.rewrite.rewrite.Goals as goal
use Rattle.apply_rewrite.proofs.rewrite.rewrite.Goals.{After-new-2}

pub new-requires-2 : goal.new-requires-2
new-requires-2 c =
    let p = c.into_program-items in
    let q = c.into_checked-checked in
    (stands c.args.source q.result p.result (record { items = c.in_ok-items.items }) q.ensures.program q.ensures.admitted p.ensures.program p.ensures.checked c.requires (search rules)).checked

stood : (c : After-new-2) → Stands c.args.source c.new-2.result
stood c =
    let p = c.into_program-items in
    let q = c.into_checked-checked in
    let text : bare_program (record { items = c.in_ok-items.items }) ≡ carried_out (bare_program c.args.source) = search rules in
    stands c.args.source q.result p.result c.new-2.result q.ensures.program q.ensures.admitted p.ensures.program p.ensures.checked c.requires (ap bare_program c.new-2.ensures ∙ text)

pub returns-clause-rewritten : goal.returns-clause-rewritten
returns-clause-rewritten c = (stood (goal.at.returns-clause-rewritten c).After-new-2).rewritten

pub returns-clause-plain : goal.returns-clause-plain
returns-clause-plain c = (stood (goal.at.returns-clause-plain c).After-new-2).plain

pub returns-clause-outcome : goal.returns-clause-outcome
returns-clause-outcome c = (stood (goal.at.returns-clause-outcome c).After-new-2).outcome

pub returns-clause-turns : goal.returns-clause-turns
returns-clause-turns c = (stood (goal.at.returns-clause-turns c).After-new-2).turns

pub returns-clause-structure : goal.returns-clause-structure
returns-clause-structure c = (stood (goal.at.returns-clause-structure c).After-new-2).structure
