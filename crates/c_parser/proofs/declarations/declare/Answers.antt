use Rattle.std.proofs.lemmas.Result.{err_from_is_err_and}
use Rattle.c_parser.proofs.Declaring.{declaring_starts, declaring_more, declaring_ends, declaring_nameless, declaring_unsaid, declaring_open, declaring_shrinks}
use Rattle.c_parser.proofs.declarations.declare.Goals as goal

pub loop-all-init : goal.loop-all-init
loop-all-init c = λ before g. declaring_starts c.args.ty c.args.from before c.args.cursor.now c.args.stmts g

pub returns-in_err-name : goal.returns-in_err-name
returns-in_err-name c =
    let p = err_from_is_err_and c.from_residual.result c.from_residual.ensures.1 in
    rw (p.1, p.2) (λ before g. declaring_nameless c.args.ty c.args.from c.loop-all.start before c.args.cursor.now c.loop-all.cursor c.name.new.cursor c.name.new.cursor c.loop-all.all c.in_err-name.field-0.0 (c.loop-all.invariant before g) c.in_err-name.ensures)

pub returns-in_err-said : goal.returns-in_err-said
returns-in_err-said c =
    let p = err_from_is_err_and c.from_residual-in_err-said.result c.from_residual-in_err-said.ensures.1 in
    rw (p.1, p.2) (λ before g. declaring_unsaid c.args.ty c.args.from c.loop-all.start before c.args.cursor.now c.loop-all.cursor c.name.new.cursor c.take_said.new.cursor c.take_said.new.cursor c.loop-all.all c.in_ok-name.name c.in_ok-name.name_at c.in_err-said.field-0.0 (c.loop-all.invariant before g) c.in_ok-name.ensures c.in_err-said.ensures)

pub loop-all-smaller : goal.loop-all-smaller
loop-all-smaller c = declaring_shrinks c.loop-all.cursor c.name.new.cursor c.take_said.new.cursor c.may.new.self c.in_ok-name.name c.in_ok-name.name_at c.in_ok-said.last c.in_ok-said.said c.in_ok-name.ensures c.in_ok-said.ensures c.in-Some.ensures.shorter

pub loop-all-preserved : goal.loop-all-preserved
loop-all-preserved c = λ before g. declaring_more c.args.ty c.args.from c.loop-all.start before c.args.cursor.now c.loop-all.cursor c.name.new.cursor c.take_said.new.cursor c.may.new.self c.loop-all.all c.in_ok-all-in-Some.all c.in_ok-name.name c.in_ok-name.name_at c.in_ok-said.last c.in-Some.field-0 c.in_ok-said.said c.first.result.now (c.loop-all.invariant before g) c.in_ok-name.ensures c.in_ok-said.ensures c.in-Some.ensures.taken c.first.ensures.first c.in_ok-all-in-Some.ensures

pub returns-in_err-last-in-None : goal.returns-in_err-last-in-None
returns-in_err-last-in-None c =
    let p = err_from_is_err_and c.from_residual-in_err-last-in-None.result c.from_residual-in_err-last-in-None.ensures.1 in
    rw (p.1, p.2) (λ before g. declaring_open c.args.ty c.args.from c.loop-all.start before c.args.cursor.now c.loop-all.cursor c.name.new.cursor c.take_said.new.cursor c.may.new.self c.take.new.self c.take.new.self c.loop-all.all c.in_ok-name.name c.in_ok-name.name_at c.in_ok-said.last c.in_ok-said.said c.in_err-last-in-None.field-0.0 (c.loop-all.invariant before g) c.in_ok-name.ensures c.in_ok-said.ensures c.in-None.ensures.taken c.in_err-last-in-None.ensures)

pub returns-in-None : goal.returns-in-None
returns-in-None c = λ before g. declaring_ends c.args.ty c.args.from c.loop-all.start before c.args.cursor.now c.loop-all.cursor c.name.new.cursor c.take_said.new.cursor c.may.new.self c.take.new.self c.loop-all.all c.in_ok-declared-in-None.field-0 c.in_ok-name.name c.in_ok-name.name_at c.in_ok-said.last c.in_ok-last-in-None.last c.in_ok-said.said (c.loop-all.invariant before g) c.in_ok-name.ensures c.in_ok-said.ensures c.in-None.ensures.taken c.in_ok-last-in-None.ensures c.in_ok-declared-in-None.ensures
