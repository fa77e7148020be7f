use Rattle.std.proofs.lemmas.Result.{err_from_is_err_and}
use Rattle.std.proofs.Common.{subst}
use Rattle.c_parser.specs.Constants.{OpensValue}
use Rattle.c_parser.proofs.SimpleTaken.{fails_by}
use Rattle.c_parser.proofs.ConstantsTaken.{bare_taken}
use Rattle.c_parser.proofs.constants.value.Goals as goal

pub returns-in_err-constant : goal.returns-in_err-constant
returns-in_err-constant c =
    let p = err_from_is_err_and c.from_residual.result c.from_residual.ensures.1 in
    rw (p.1, p.2) (λ f. fails_by _ _ c.args.cursor.now c.opens.new.cursor c.in_err-constant.field-0.0 ((subst (λ b. OpensValue c.args.cursor.now b c.opens.new.cursor) c.if-opens.true c.opens.ensures) f) (c.in_err-constant.ensures _))

pub returns-in_err-take : goal.returns-in_err-take
returns-in_err-take c =
    let p = err_from_is_err_and c.from_residual-in_err-take.result c.from_residual-in_err-take.ensures.1 in
    rw (p.1, p.2) (λ f. fails_by _ _ c.args.cursor.now c.signed.new.cursor c.in_err-take.field-0.0 (λ o h. (subst (λ b. OpensValue c.args.cursor.now b c.opens.new.cursor) c.if-opens.true c.opens.ensures) f o (c.in_ok-constant.ensures _ o h)) (c.in_err-take.ensures _))

pub returns-in_ok-take : goal.returns-in_ok-take
returns-in_ok-take c = λ f o h. (subst (λ b. OpensValue c.args.cursor.now b c.opens.new.cursor) c.if-opens.true c.opens.ensures) f o (c.in_ok-constant.ensures _ o (c.in_ok-take.ensures _ o h))

pub returns-else-opens : goal.returns-else-opens
returns-else-opens c = bare_taken c.args.cursor.now c.opens.new.cursor c.signed-else-opens.new.cursor c.signed-else-opens.result (subst (λ b. OpensValue c.args.cursor.now b c.opens.new.cursor) c.if-opens.false c.opens.ensures) c.signed-else-opens.ensures
