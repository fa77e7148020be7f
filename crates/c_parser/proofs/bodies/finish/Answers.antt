use Rattle.std.proofs.Common.{List, length, sym, subst, Ok, arith}
use Rattle.c_parser.specs.declared.owners.Frame.{Frame}
use Rattle.c_parser.specs.declared.bodies.State.TheVariants as v
use Rattle.c_parser.specs.Lists.{IsStep, Lessens}
use Rattle.c_parser.proofs.Lists.{else_ends, while_ends, for_ends, omp_ends, lessens_kept}
use Rattle.c_parser.proofs.bodies.finish.Goals as goal

pub returns-in-IfThen-clause-steps : goal.returns-in-IfThen-clause-steps
returns-in-IfThen-clause-steps c = subst (λ z. (fs : List Frame) → IsStep fs (v.Closed z c.args.stmts c.args.last) c.args.cursor.now (Ok c.after_then.result) fs c.after_then.new.cursor) (sym c.in-IfThen.is) c.after_then.ensures.steps

pub returns-in-IfThen-clause-lessens : goal.returns-in-IfThen-clause-lessens
returns-in-IfThen-clause-lessens c = subst (λ z. (fs : List Frame) → Lessens fs (v.Closed z c.args.stmts c.args.last) c.args.cursor.now (Ok c.after_then.result) fs c.after_then.new.cursor) (sym c.in-IfThen.is) c.after_then.ensures.lessens

pub returns-in-IfElse-clause-steps : goal.returns-in-IfElse-clause-steps
returns-in-IfElse-clause-steps c = λ fs. else_ends fs c.args.owner c.in-IfElse.test c.in-IfElse.yes c.in-IfElse.at c.args.stmts c.args.last c.spanning.result c.if_else.result c.args.cursor.now c.in-IfElse.is c.spanning.ensures c.if_else.ensures

pub returns-in-IfElse-clause-lessens : goal.returns-in-IfElse-clause-lessens
returns-in-IfElse-clause-lessens c = λ fs m. lessens_kept fs (length c.args.cursor.now) (length c.args.cursor.now) 1 2 (omega arith) (omega arith)

pub returns-in-While-clause-steps : goal.returns-in-While-clause-steps
returns-in-While-clause-steps c = λ fs. while_ends fs c.args.owner c.in-While.test c.in-While.at c.args.stmts c.args.last c.spanning-in-While.result c.while_loop.result c.args.cursor.now c.in-While.is c.spanning-in-While.ensures c.while_loop.ensures

pub returns-in-While-clause-lessens : goal.returns-in-While-clause-lessens
returns-in-While-clause-lessens c = λ fs m. lessens_kept fs (length c.args.cursor.now) (length c.args.cursor.now) 1 2 (omega arith) (omega arith)

pub returns-in-Do-clause-steps : goal.returns-in-Do-clause-steps
returns-in-Do-clause-steps c = subst (λ z. (fs : List Frame) → IsStep fs (v.Closed z c.args.stmts c.args.last) c.args.cursor.now c.after_do.result fs c.after_do.new.cursor) (sym c.in-Do.is) c.after_do.ensures.steps

pub returns-in-Do-clause-lessens : goal.returns-in-Do-clause-lessens
returns-in-Do-clause-lessens c = subst (λ z. (fs : List Frame) → Lessens fs (v.Closed z c.args.stmts c.args.last) c.args.cursor.now c.after_do.result fs c.after_do.new.cursor) (sym c.in-Do.is) c.after_do.ensures.lessens

pub returns-in-For-clause-steps : goal.returns-in-For-clause-steps
returns-in-For-clause-steps c = λ fs. for_ends fs c.args.owner c.in-For.head c.in-For.at c.args.stmts c.args.last c.spanning-in-For.result c.for_loop.result c.args.cursor.now c.in-For.is c.spanning-in-For.ensures c.for_loop.ensures

pub returns-in-For-clause-lessens : goal.returns-in-For-clause-lessens
returns-in-For-clause-lessens c = λ fs m. lessens_kept fs (length c.args.cursor.now) (length c.args.cursor.now) 1 2 (omega arith) (omega arith)

pub returns-in-Omp-clause-steps : goal.returns-in-Omp-clause-steps
returns-in-Omp-clause-steps c = λ fs. omp_ends fs c.args.owner c.in-Omp.directive c.in-Omp.at c.args.stmts c.args.last c.spanning-in-Omp.result c.construct.result c.args.cursor.now c.in-Omp.is c.spanning-in-Omp.ensures c.construct.ensures

pub returns-in-Omp-clause-lessens : goal.returns-in-Omp-clause-lessens
returns-in-Omp-clause-lessens c = λ fs m. lessens_kept fs (length c.args.cursor.now) (length c.args.cursor.now) 1 2 (omega arith) (omega arith)
