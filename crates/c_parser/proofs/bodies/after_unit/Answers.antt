use Rattle.std.proofs.Common.{length, subst, arith, Ok}
use Rattle.std.proofs.lemmas.Result.{err_from_is_err_and}
use Rattle.c_parser.proofs.Lists.{HasUnit, no_unit, unit_more, unit_opens, unit_owns, unit_closes, lessens_taken, lessens_pushed}
use Rattle.c_parser.proofs.bodies.after_unit.Goals as goal

pub returns-in_err-stmts-clause-steps : goal.returns-in_err-stmts-clause-steps
returns-in_err-stmts-clause-steps c =
    let p = err_from_is_err_and c.from_residual.result c.from_residual.ensures.1 in
    rw (p.1, p.2) (no_unit c.args.frames.now.items c.args.frames.now.items c.args.list c.in_err-stmts.field-0.0 c.args.cursor.now c.unit.new.cursor c.unit.new.cursor c.in_err-stmts.ensures)

pub returns-in-More-clause-steps : goal.returns-in-More-clause-steps
returns-in-More-clause-steps c = unit_more c.args.frames.now.items c.args.list c.in-More.stmts c.args.cursor.now c.unit.new.cursor (subst (λ z. HasUnit c.args.list c.args.cursor.now (Ok z) c.unit.new.cursor) c.in-More.is c.in_ok-stmts.ensures)

pub returns-in-More-clause-lessens : goal.returns-in-More-clause-lessens
returns-in-More-clause-lessens c = λ m. lessens_taken c.args.frames.now.items (length c.unit.new.cursor) (length c.args.cursor.now) 0 0 ((subst (λ z. HasUnit c.args.list c.args.cursor.now (Ok z) c.unit.new.cursor) c.in-More.is c.in_ok-stmts.ensures) m.0 m.1).3 (omega arith)

pub returns-in_ok-push_frame-in-Opens-clause-steps : goal.returns-in_ok-push_frame-in-Opens-clause-steps
returns-in_ok-push_frame-in-Opens-clause-steps c = unit_opens c.args.frames.now.items c.push_frame.new.frames.items c.args.list c.in-Opens.stmts c.no_stmts.result c.in-Opens.inner c.args.cursor.now c.unit.new.cursor (subst (λ z. HasUnit c.args.list c.args.cursor.now (Ok z) c.unit.new.cursor) c.in-Opens.is c.in_ok-stmts.ensures) c.in_ok-push_frame-in-Opens.ensures c.no_stmts.ensures

pub returns-in_ok-push_frame-in-Opens-clause-lessens : goal.returns-in_ok-push_frame-in-Opens-clause-lessens
returns-in_ok-push_frame-in-Opens-clause-lessens c = λ m. lessens_pushed c.args.frames.now.items c.push_frame.new.frames.items _ (length c.unit.new.cursor) (length c.args.cursor.now) c.in_ok-push_frame-in-Opens.ensures ((subst (λ z. HasUnit c.args.list c.args.cursor.now (Ok z) c.unit.new.cursor) c.in-Opens.is c.in_ok-stmts.ensures) m.0 m.1).2

pub returns-in_ok-push_frame-in-Owns-clause-steps : goal.returns-in_ok-push_frame-in-Owns-clause-steps
returns-in_ok-push_frame-in-Owns-clause-steps c = unit_owns c.args.frames.now.items c.push_frame-in-Owns.new.frames.items c.args.list c.in-Owns.stmts c.in-Owns.owner c.args.cursor.now c.unit.new.cursor (subst (λ z. HasUnit c.args.list c.args.cursor.now (Ok z) c.unit.new.cursor) c.in-Owns.is c.in_ok-stmts.ensures) c.in_ok-push_frame-in-Owns.ensures

pub returns-in_ok-push_frame-in-Owns-clause-lessens : goal.returns-in_ok-push_frame-in-Owns-clause-lessens
returns-in_ok-push_frame-in-Owns-clause-lessens c = λ m. lessens_pushed c.args.frames.now.items c.push_frame-in-Owns.new.frames.items _ (length c.unit.new.cursor) (length c.args.cursor.now) c.in_ok-push_frame-in-Owns.ensures ((subst (λ z. HasUnit c.args.list c.args.cursor.now (Ok z) c.unit.new.cursor) c.in-Owns.is c.in_ok-stmts.ensures) m.0 m.1).4

pub returns-in-Closes-clause-steps : goal.returns-in-Closes-clause-steps
returns-in-Closes-clause-steps c = unit_closes c.args.frames.now.items c.args.list c.in-Closes.stmts c.in-Closes.last c.args.cursor.now c.unit.new.cursor (subst (λ z. HasUnit c.args.list c.args.cursor.now (Ok z) c.unit.new.cursor) c.in-Closes.is c.in_ok-stmts.ensures)

pub returns-in-Closes-clause-lessens : goal.returns-in-Closes-clause-lessens
returns-in-Closes-clause-lessens c = λ m. lessens_taken c.args.frames.now.items (length c.unit.new.cursor) (length c.args.cursor.now) 1 0 ((subst (λ z. HasUnit c.args.list c.args.cursor.now (Ok z) c.unit.new.cursor) c.in-Closes.is c.in_ok-stmts.ensures) m.0 m.1).2 (omega arith)
