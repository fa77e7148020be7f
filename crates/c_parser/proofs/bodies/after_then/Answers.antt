use Rattle.std.proofs.Common.{length, arith}
use Rattle.c_parser.proofs.Lists.{if_goes_on, if_ends, lessens_kept, lessens_taken}
use Rattle.c_parser.proofs.SimpleTaken.{leads_shrinks}
use Rattle.c_parser.proofs.Passing.{any_expr}
use Rattle.c_parser.proofs.bodies.after_then.Goals as goal

pub returns-in-Some-clause-steps : goal.returns-in-Some-clause-steps
returns-in-Some-clause-steps c = λ fs. if_goes_on fs c.args.test c.args.at c.args.stmts c.args.last _ c.args.cursor.now c.may.new.self c.in-Some.ensures.taken

pub returns-in-None-clause-steps : goal.returns-in-None-clause-steps
returns-in-None-clause-steps c = λ fs. if_ends fs c.args.test c.args.at c.args.stmts c.args.last c.spanning.result c.if_only.result c.args.cursor.now c.may.new.self c.in-None.ensures.taken c.spanning.ensures c.if_only.ensures

pub returns-in-None-clause-lessens : goal.returns-in-None-clause-lessens
returns-in-None-clause-lessens c = λ fs m. lessens_kept fs (length c.may.new.self) (length c.args.cursor.now) 1 2 (leads_shrinks _ _ c.args.cursor.now c.may.new.self (c.in-None.ensures.taken (λ z. any_expr) any_expr)) (omega arith)

pub returns-in-Some-clause-lessens : goal.returns-in-Some-clause-lessens
returns-in-Some-clause-lessens c = λ fs m. lessens_taken fs (length c.may.new.self) (length c.args.cursor.now) 0 2 c.in-Some.ensures.shorter (omega arith)
