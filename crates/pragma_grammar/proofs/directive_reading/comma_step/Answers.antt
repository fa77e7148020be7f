use Rattle.pragma_grammar.specs.DirectiveStands.{part_of}
use Rattle.pragma_grammar.proofs.DirectiveNested.{comma_pops}
use Rattle.pragma_grammar.proofs.directive_reading.comma_step.Goals as goal

pub returns-in_ok-with_item-in-Some : goal.returns-in_ok-with_item-in-Some
returns-in_ok-with_item-in-Some c = comma_pops _ _ _ _ (part_of c.args.part) c.args.last _ _ _ c.pop.ensures.items c.in-Some.is c.in_ok-with_item-in-Some.ensures c.acts.ensures c.made.ensures
