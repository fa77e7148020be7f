use Rattle.std.proofs.Common.{subst, sym}
use Rattle.c_parser.specs.declared.bodies.State.TheVariants as v
use Rattle.c_parser.specs.Lists.{IsStep, Lessens}
use Rattle.c_parser.proofs.bodies.after_body.Goals as goal

pub returns-clause-steps : goal.returns-clause-steps
returns-clause-steps c = subst (λ z. IsStep c.args.frames.now.items (v.Body c.args.owner) c.args.cursor.now c.begin_body.result z c.begin_body.new.cursor) (sym c.in_ok-push_frame.ensures) (c.begin_body.ensures.steps c.args.frames.now.items c.args.owner)

pub returns-clause-lessens : goal.returns-clause-lessens
returns-clause-lessens c = subst (λ z. Lessens c.args.frames.now.items (v.Body c.args.owner) c.args.cursor.now c.begin_body.result z c.begin_body.new.cursor) (sym c.in_ok-push_frame.ensures) (c.begin_body.ensures.lessens c.args.frames.now.items c.args.owner)
