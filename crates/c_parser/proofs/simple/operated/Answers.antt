use Rattle.std.proofs.lemmas.Result.{err_from_is_err_and}
use Rattle.c_parser.proofs.SimplesTaken.{operated_by, operated_set, operated_no_value, operated_step, operated_goes_on, assign_is, step_is}
use Rattle.c_parser.proofs.simple.operated.Goals as goal

pub returns-in_err-op : goal.returns-in_err-op
returns-in_err-op c = λ t q.
    let p = err_from_is_err_and c.from_residual.result c.from_residual.ensures.1 in
    rw (p.1, p.2) (operated_by t c.args.at c.args.cursor.now c.take_operator.new.cursor c.in_err-op.field-0.0 c.in_err-op.ensures)

pub returns-in_err-value-in-Assign : goal.returns-in_err-value-in-Assign
returns-in_err-value-in-Assign c = λ t q.
    let p = err_from_is_err_and c.from_residual-in_err-value-in-Assign.result c.from_residual-in_err-value-in-Assign.ensures.1 in
    rw (p.1, p.2) (operated_no_value t c.args.at c.args.cursor.now c.take_operator.new.cursor c.expr.new.cursor c.in-Assign.op c.in_err-value-in-Assign.field-0.0 (assign_is _ _ _ _ c.in-Assign.is c.in_ok-op.ensures) c.in_err-value-in-Assign.ensures.taken)

pub returns-in_err-stop-in-Step : goal.returns-in_err-stop-in-Step
returns-in_err-stop-in-Step c = λ t q.
    let p = err_from_is_err_and c.from_residual-in_err-stop-in-Step.result c.from_residual-in_err-stop-in-Step.ensures.1 in
    rw (p.1, p.2) (operated_goes_on t c.args.at c.in-Step.last c.args.cursor.now c.take_operator.new.cursor c.in-Step.up c.in_err-stop-in-Step.field-0.0 (step_is _ _ _ _ _ c.in-Step.is c.in_ok-op.ensures) c.in_err-stop-in-Step.ensures)

pub returns-in_ok-value-in-Assign : goal.returns-in_ok-value-in-Assign
returns-in_ok-value-in-Assign c = λ t q. operated_set t c.args.at c.in_ok-value-in-Assign.last c.args.cursor.now c.take_operator.new.cursor c.expr.new.cursor c.args.target c.in-Assign.op c.in_ok-value-in-Assign.value q (assign_is _ _ _ _ c.in-Assign.is c.in_ok-op.ensures) c.in_ok-value-in-Assign.ensures.taken

pub returns-in_ok-stop-in-Step : goal.returns-in_ok-stop-in-Step
returns-in_ok-stop-in-Step c = λ t q. operated_step t c.args.at c.in-Step.last c.args.cursor.now c.take_operator.new.cursor c.args.target c.in-Step.up tt q (step_is _ _ _ _ _ c.in-Step.is c.in_ok-op.ensures) c.in_ok-stop-in-Step.ensures
