use Rattle.std.proofs.Common.{subst, Ok}
use Rattle.std.proofs.lemmas.Result.{err_from_is_err_and}
use Rattle.c_parser.specs.Lists.{IsStep, Lessens}
use Rattle.c_parser.proofs.Lists.{reading_starts, reading_goes, reading_ends, reading_fails}
use Rattle.c_parser.proofs.bodies.stmts_of_list.Goals as goal

pub steps-init : goal.steps-init
steps-init c = reading_starts c.args.ends_main c.args.cursor.now c.new-frames.result.items c.no_stmts.result c.args.at c.new-frames.ensures.items c.no_stmts.ensures

pub steps-preserved : goal.steps-preserved
steps-preserved c = reading_goes c.args.ends_main c.args.cursor.now c.steps.cursor c.take_step.new.cursor c.steps.frames.items c.take_step.new.frames.items c.steps.state c.in-Goes.next c.steps.invariant (subst (λ z. IsStep c.steps.frames.items c.steps.state c.steps.cursor (Ok z) c.take_step.new.frames.items c.take_step.new.cursor) c.in-Goes.is c.in_ok-next.ensures.steps)

pub steps-smaller : goal.steps-smaller
steps-smaller c = subst (λ z. Lessens c.steps.frames.items c.steps.state c.steps.cursor (Ok z) c.take_step.new.frames.items c.take_step.new.cursor) c.in-Goes.is c.in_ok-next.ensures.lessens c.steps.invariant.means

pub returns-in_err-next : goal.returns-in_err-next
returns-in_err-next c =
    let p = err_from_is_err_and c.from_residual.result c.from_residual.ensures.1 in
    rw (p.1, p.2) (reading_fails c.args.ends_main c.args.cursor.now c.steps.cursor c.take_step.new.cursor c.take_step.new.cursor c.steps.frames.items c.take_step.new.frames.items c.steps.state c.in_err-next.field-0.0 c.steps.invariant c.in_err-next.ensures.steps)

pub returns-in-Done : goal.returns-in-Done
returns-in-Done c = reading_ends c.args.ends_main c.args.cursor.now c.steps.cursor c.take_step.new.cursor c.steps.frames.items c.take_step.new.frames.items c.steps.state c.in-Done.stmts c.in-Done.last c.steps.invariant (subst (λ z. IsStep c.steps.frames.items c.steps.state c.steps.cursor (Ok z) c.take_step.new.frames.items c.take_step.new.cursor) c.in-Done.is c.in_ok-next.ensures.steps)
