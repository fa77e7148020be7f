use Rattle.pragma_grammar.specs.DirectiveStands.{part_of}
use Rattle.pragma_grammar.proofs.DirectiveNested.{end_pops}
use Rattle.pragma_grammar.proofs.directive_reading.end_step.Goals as goal

pub returns-in-Some : goal.returns-in-Some
returns-in-Some c = end_pops _ _ _ _ (part_of c.args.part) c.args.last c.pop.ensures.items c.in-Some.is
