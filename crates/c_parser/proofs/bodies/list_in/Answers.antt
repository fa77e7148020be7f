use Rattle.std.proofs.Common.{length, arith}
use Rattle.pragma_grammar.specs.Symbols.{spanning}
use Rattle.c_parser.proofs.Built.{built_block}
use Rattle.c_parser.proofs.Lists.{list_ends_body, list_ends_inner, lessens_popped}
use Rattle.c_parser.proofs.bodies.list_in.Goals as goal

pub returns-in-Owner-clause-steps : goal.returns-in-Owner-clause-steps
returns-in-Owner-clause-steps c = rw c.in-Owner.is (λ outer ts. list_ends_body outer c.in-Owner.owner c.args.stmts c.args.at c.args.last ts)

pub returns-in-Owner-clause-lessens : goal.returns-in-Owner-clause-lessens
returns-in-Owner-clause-lessens c = λ outer ts m. lessens_popped outer c.args.frame (length ts) 2 1 (omega arith)

pub returns-in_ok-list-in-List-clause-steps : goal.returns-in_ok-list-in-List-clause-steps
returns-in_ok-list-in-List-clause-steps c = rw c.in-List.is (λ outer ts. list_ends_inner outer c.in-List.list c.in_ok-list-in-List.list c.block.result c.args.stmts c.args.at c.args.last ts (λ ss q. built_block _ _ ss (spanning c.args.at c.args.last) c.spanning.result c.spanning.ensures c.block.ensures q) c.in_ok-list-in-List.ensures)

pub returns-in_ok-list-in-List-clause-lessens : goal.returns-in_ok-list-in-List-clause-lessens
returns-in_ok-list-in-List-clause-lessens c = λ outer ts m. lessens_popped outer c.args.frame (length ts) 0 1 (omega arith)
