use Rattle.std.proofs.Common.{length, arith}
use Rattle.std.proofs.lemmas.Result.{err_from_is_err_and}
use Rattle.c_parser.proofs.Lists.{do_wordless, do_testless, do_open, do_ends, do_shrinks, lessens_kept}
use Rattle.c_parser.proofs.bodies.after_do.Goals as goal

pub returns-in_err-take-clause-steps : goal.returns-in_err-take-clause-steps
returns-in_err-take-clause-steps c =
    let p = err_from_is_err_and c.from_residual.result c.from_residual.ensures.1 in
    rw (p.1, p.2) (λ fs. do_wordless fs fs c.args.at c.args.stmts c.args.last c.args.cursor.now c.take.new.self c.take.new.self c.in_err-take.field-0.0 c.in_err-take.ensures)

pub returns-in_err-test-clause-steps : goal.returns-in_err-test-clause-steps
returns-in_err-test-clause-steps c =
    let p = err_from_is_err_and c.from_residual-in_err-test.result c.from_residual-in_err-test.ensures.1 in
    rw (p.1, p.2) (λ fs. do_testless fs fs c.args.at c.args.stmts c.args.last _ c.args.cursor.now c.take.new.self c.condition.new.cursor c.condition.new.cursor c.in_err-test.field-0.0 c.in_ok-take.ensures c.in_err-test.ensures)

pub returns-in_err-end-clause-steps : goal.returns-in_err-end-clause-steps
returns-in_err-end-clause-steps c =
    let p = err_from_is_err_and c.from_residual-in_err-end.result c.from_residual-in_err-end.ensures.1 in
    rw (p.1, p.2) (λ fs. do_open fs fs c.args.at c.args.stmts c.args.last _ _ c.args.cursor.now c.take.new.self c.condition.new.cursor c.take-2.new.self c.take-2.new.self c.in_err-end.field-0.0 c.in_ok-take.ensures c.in_ok-test.ensures c.in_err-end.ensures)

pub returns-clause-steps : goal.returns-clause-steps
returns-clause-steps c = λ fs. do_ends fs c.args.at c.args.stmts c.args.last _ c.in_ok-end.end c.spanning.result c.in_ok-test.test c.do_loop.result c.args.cursor.now c.take.new.self c.condition.new.cursor c.take-2.new.self c.in_ok-take.ensures c.in_ok-test.ensures c.in_ok-end.ensures c.spanning.ensures c.do_loop.ensures

pub returns-clause-lessens : goal.returns-clause-lessens
returns-clause-lessens c = λ fs m. lessens_kept fs (length c.take-2.new.self) (length c.args.cursor.now) 1 2 (do_shrinks c.args.cursor.now c.take.new.self c.condition.new.cursor c.take-2.new.self _ c.in_ok-end.end c.in_ok-test.test c.in_ok-take.ensures c.in_ok-test.ensures c.in_ok-end.ensures) (omega arith)
