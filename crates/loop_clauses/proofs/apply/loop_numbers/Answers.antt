-- Without indices the items go to the loops one after another.
use Rattle.std.proofs.Common.{◌≡◌, ◌∙◌, sym, [], rules, arith}
use Rattle.std.proofs.lemmas.Grind.{common_steps}
use Rattle.loop_clauses.proofs.Indices.{none_said}
use Rattle.loop_clauses.proofs.apply.loop_numbers.Goals as goal

pub returns-then-is_empty : goal.returns-then-is_empty
returns-then-is_empty g c =
    let none : c.args.apply.indices.now ≡ [] = first_of (search rules, grind (arith, common_steps)) in
    c.in_ok-numbers.ensures ∙ sym (none_said (g.C.Constants.defines c.args.constants.now) c.args.apply.indices.now c.args.apply.items.now none)
