use Rattle.std.proofs.Common.{length, arith}
use Rattle.c_parser.proofs.Lists.{stmt_ends_body, stmt_in_list, lessens_popped}
use Rattle.c_parser.proofs.bodies.stmt_in.Goals as goal

pub returns-in_ok-stmts-in-Owner-clause-steps : goal.returns-in_ok-stmts-in-Owner-clause-steps
returns-in_ok-stmts-in-Owner-clause-steps c = rw c.in-Owner.is (λ outer ts. stmt_ends_body outer c.in-Owner.owner c.args.stmt c.in_ok-stmts-in-Owner.stmts c.args.last ts c.in_ok-stmts-in-Owner.ensures)

pub returns-in_ok-stmts-in-Owner-clause-lessens : goal.returns-in_ok-stmts-in-Owner-clause-lessens
returns-in_ok-stmts-in-Owner-clause-lessens c = λ outer ts m. lessens_popped outer c.args.frame (length ts) 2 1 (omega arith)

pub returns-in_ok-list-in-List-clause-steps : goal.returns-in_ok-list-in-List-clause-steps
returns-in_ok-list-in-List-clause-steps c = rw c.in-List.is (λ outer ts. stmt_in_list outer c.in-List.list c.in_ok-list-in-List.list c.args.stmt c.args.last ts c.in_ok-list-in-List.ensures)

pub returns-in_ok-list-in-List-clause-lessens : goal.returns-in_ok-list-in-List-clause-lessens
returns-in_ok-list-in-List-clause-lessens c = λ outer ts m. lessens_popped outer c.args.frame (length ts) 0 1 (omega arith)
