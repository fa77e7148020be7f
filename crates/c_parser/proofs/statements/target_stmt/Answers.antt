use Rattle.std.proofs.lemmas.Result.{err_from_is_err_and}
use Rattle.c_parser.proofs.SimpleTaken.{fails_by}
use Rattle.c_tree.specs.Placed.{step}
use Rattle.pragma_grammar.specs.Symbols.{spanning}
use Rattle.c_grammar.specs.Goals.{assigned, ends_statement}
use Rattle.c_parser.proofs.Built.{built_step}
use Rattle.c_parser.proofs.SimplesTaken.{assign_is, step_is, stmt_passed}
use Rattle.c_parser.proofs.statements.target_stmt.Goals as goal

pub returns-in_err-op : goal.returns-in_err-op
returns-in_err-op c =
    let p = err_from_is_err_and c.from_residual.result c.from_residual.ensures.1 in
    rw (p.1, p.2) (λ t q f. c.in_err-op.ensures _ _)

pub returns-in-Assign : goal.returns-in-Assign
returns-in-Assign c = λ t q. stmt_passed _ _ c.args.cursor.now c.take_operator.new.cursor c.assigned_stmt.new.cursor c.assigned_stmt.result (λ f. assign_is _ _ _ _ c.in-Assign.is c.in_ok-op.ensures (assigned t c.args.at f) (λ up z. ends_statement f (λ to. step t up (record { start = c.args.at.start; end = to })) z)) (c.assigned_stmt.ensures t q)

pub returns-in_err-last-in-Step : goal.returns-in_err-last-in-Step
returns-in_err-last-in-Step c =
    let p = err_from_is_err_and c.from_residual-in_err-last-in-Step.result c.from_residual-in_err-last-in-Step.ensures.1 in
    rw (p.1, p.2) (λ t q f. fails_by _ _ c.args.cursor.now c.take_operator.new.cursor c.in_err-last-in-Step.field-0.0 (λ o h. step_is _ _ _ _ _ c.in-Step.is c.in_ok-op.ensures (assigned t c.args.at f) (λ up z. ends_statement f (λ to. step t up (record { start = c.args.at.start; end = to })) z) o h) (c.in_err-last-in-Step.ensures _))

pub returns-in_ok-last-in-Step : goal.returns-in_ok-last-in-Step
returns-in_ok-last-in-Step c = λ t q. (step t c.in-Step.up (spanning c.args.at c.in_ok-last-in-Step.last), built_step _ _ c.in-Step.up t (spanning c.args.at c.in_ok-last-in-Step.last) c.spanning.result c.spanning.ensures c.step.ensures q, λ f o h. step_is _ _ _ _ _ c.in-Step.is c.in_ok-op.ensures (assigned t c.args.at f) (λ up z. ends_statement f (λ to. step t up (record { start = c.args.at.start; end = to })) z) o (c.in_ok-last-in-Step.ensures _ o h))
