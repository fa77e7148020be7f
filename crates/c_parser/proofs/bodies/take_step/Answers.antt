use Rattle.std.proofs.Common.{sym, subst}
use Rattle.c_parser.specs.Lists.{IsStep, Lessens}
use Rattle.c_parser.proofs.bodies.take_step.Goals as goal

pub returns-in-Units-clause-steps : goal.returns-in-Units-clause-steps
returns-in-Units-clause-steps c = subst (λ z. IsStep c.args.frames.now.items z c.args.cursor.now c.after_unit.result c.after_unit.new.frames.items c.after_unit.new.cursor) (sym c.in-Units.is) (c.after_unit.ensures.steps)

pub returns-in-Units-clause-lessens : goal.returns-in-Units-clause-lessens
returns-in-Units-clause-lessens c = subst (λ z. Lessens c.args.frames.now.items z c.args.cursor.now c.after_unit.result c.after_unit.new.frames.items c.after_unit.new.cursor) (sym c.in-Units.is) (c.after_unit.ensures.lessens)

pub returns-in-Body-clause-steps : goal.returns-in-Body-clause-steps
returns-in-Body-clause-steps c = subst (λ z. IsStep c.args.frames.now.items z c.args.cursor.now c.after_body.result c.after_body.new.frames.items c.after_body.new.cursor) (sym c.in-Body.is) (c.after_body.ensures.steps)

pub returns-in-Body-clause-lessens : goal.returns-in-Body-clause-lessens
returns-in-Body-clause-lessens c = subst (λ z. Lessens c.args.frames.now.items z c.args.cursor.now c.after_body.result c.after_body.new.frames.items c.after_body.new.cursor) (sym c.in-Body.is) (c.after_body.ensures.lessens)

pub returns-in-Closed-clause-steps : goal.returns-in-Closed-clause-steps
returns-in-Closed-clause-steps c = subst (λ z. IsStep c.args.frames.now.items z c.args.cursor.now c.finish.result c.args.frames.now.items c.finish.new.cursor) (sym c.in-Closed.is) (c.finish.ensures.steps c.args.frames.now.items)

pub returns-in-Closed-clause-lessens : goal.returns-in-Closed-clause-lessens
returns-in-Closed-clause-lessens c = subst (λ z. Lessens c.args.frames.now.items z c.args.cursor.now c.finish.result c.args.frames.now.items c.finish.new.cursor) (sym c.in-Closed.is) (c.finish.ensures.lessens c.args.frames.now.items)

pub returns-in-Listed-clause-steps : goal.returns-in-Listed-clause-steps
returns-in-Listed-clause-steps c = subst (λ z. IsStep c.args.frames.now.items z c.args.cursor.now c.after_list.result c.after_list.new.frames.items c.args.cursor.now) (sym c.in-Listed.is) (c.after_list.ensures.steps c.args.cursor.now)

pub returns-in-Listed-clause-lessens : goal.returns-in-Listed-clause-lessens
returns-in-Listed-clause-lessens c = subst (λ z. Lessens c.args.frames.now.items z c.args.cursor.now c.after_list.result c.after_list.new.frames.items c.args.cursor.now) (sym c.in-Listed.is) (c.after_list.ensures.lessens c.args.cursor.now)

pub returns-in-Ended-clause-steps : goal.returns-in-Ended-clause-steps
returns-in-Ended-clause-steps c = subst (λ z. IsStep c.args.frames.now.items z c.args.cursor.now c.after_stmt.result c.after_stmt.new.frames.items c.args.cursor.now) (sym c.in-Ended.is) (c.after_stmt.ensures.steps c.args.cursor.now)

pub returns-in-Ended-clause-lessens : goal.returns-in-Ended-clause-lessens
returns-in-Ended-clause-lessens c = subst (λ z. Lessens c.args.frames.now.items z c.args.cursor.now c.after_stmt.result c.after_stmt.new.frames.items c.args.cursor.now) (sym c.in-Ended.is) (c.after_stmt.ensures.lessens c.args.cursor.now)
