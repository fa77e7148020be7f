use Rattle.std.proofs.Common.{rules}
use Rattle.std.proofs.Common.{ap, ◌∙◌, ◌++◌}
use Rattle.std.specs.Prelude.{option_to_list}
use Rattle.c_parser.proofs.Lists.{no_frames, list_ends}
use Rattle.c_parser.proofs.bodies.after_list.Goals as goal

pub returns-in-Some-clause-steps : goal.returns-in-Some-clause-steps
returns-in-Some-clause-steps c = rw (c.pop.ensures.items ∙ ap (λ z. c.pop.new.self.items ++ option_to_list z) c.in-Some.is) (λ ts. c.list_in.ensures.steps c.pop.new.self.items ts)

pub returns-in-Some-clause-lessens : goal.returns-in-Some-clause-lessens
returns-in-Some-clause-lessens c = rw (c.pop.ensures.items ∙ ap (λ z. c.pop.new.self.items ++ option_to_list z) c.in-Some.is) (λ ts. c.list_in.ensures.lessens c.pop.new.self.items ts)

pub returns-in-None-clause-steps : goal.returns-in-None-clause-steps
returns-in-None-clause-steps c = λ ts. list_ends c.args.frames.now.items c.pop.new.self.items c.args.stmts c.args.at c.args.last ts (no_frames c.args.frames.now.items (search rules))
