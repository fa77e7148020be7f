use Rattle.pragma_grammar.specs.DirectiveStands.{part_of}
use Rattle.pragma_grammar.proofs.DirectiveNested.{close_pops}
use Rattle.pragma_grammar.proofs.directive_reading.close_step.Goals as goal

pub returns-in_ok-with_item-in-Some : goal.returns-in_ok-with_item-in-Some
returns-in_ok-with_item-in-Some c = close_pops c.close_apply.result _ _ _ _ (part_of c.args.part) c.args.last c.args.place _ _ _ c.pop.ensures.items c.in-Some.is c.in_ok-with_item-in-Some.ensures c.acts.ensures c.made.ensures c.close_apply.ensures
