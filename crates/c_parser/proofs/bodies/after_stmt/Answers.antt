use Rattle.std.proofs.Common.{rules}
use Rattle.std.proofs.Common.{ap, ◌∙◌, ◌++◌}
use Rattle.std.specs.Prelude.{option_to_list}
use Rattle.c_parser.proofs.Lists.{no_frames, stmt_ends}
use Rattle.c_parser.proofs.bodies.after_stmt.Goals as goal

pub returns-in-Some-clause-steps : goal.returns-in-Some-clause-steps
returns-in-Some-clause-steps c = rw (c.pop.ensures.items ∙ ap (λ z. c.pop.new.self.items ++ option_to_list z) c.in-Some.is) (λ ts. c.stmt_in.ensures.steps c.pop.new.self.items ts)

pub returns-in-Some-clause-lessens : goal.returns-in-Some-clause-lessens
returns-in-Some-clause-lessens c = rw (c.pop.ensures.items ∙ ap (λ z. c.pop.new.self.items ++ option_to_list z) c.in-Some.is) (λ ts. c.stmt_in.ensures.lessens c.pop.new.self.items ts)

pub returns-in_ok-stmts-in-None-clause-steps : goal.returns-in_ok-stmts-in-None-clause-steps
returns-in_ok-stmts-in-None-clause-steps c = λ ts. stmt_ends c.args.frames.now.items c.pop.new.self.items c.args.stmt c.in_ok-stmts-in-None.stmts c.args.last ts (no_frames c.args.frames.now.items (search rules)) c.in_ok-stmts-in-None.ensures
