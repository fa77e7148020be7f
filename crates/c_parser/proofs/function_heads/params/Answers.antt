use Rattle.std.proofs.lemmas.Result.{err_from_is_err_and}
use Rattle.c_parser.proofs.FunctionHeadsTaken.{no_params, more_params, params_shrink, params_end, params_open, untyped, unnamed}
use Rattle.c_parser.proofs.function_heads.params.Goals as goal

pub loop-params-init : goal.loop-params-init
loop-params-init c = no_params c.args.cursor.now c.new-params.result c.new-params.ensures

pub returns-in_err-ty : goal.returns-in_err-ty
returns-in_err-ty c =
    let p = err_from_is_err_and c.from_residual.result c.from_residual.ensures.1 in
    rw (p.1, p.2) (untyped c.args.cursor.now c.loop-params.cursor c.param_type.new.cursor c.param_type.new.cursor c.loop-params.params c.in_err-ty.field-0.0 c.loop-params.invariant c.in_err-ty.ensures)

pub returns-in_err-name : goal.returns-in_err-name
returns-in_err-name c =
    let p = err_from_is_err_and c.from_residual-in_err-name.result c.from_residual-in_err-name.ensures.1 in
    rw (p.1, p.2) (unnamed c.in_ok-ty.ty c.args.cursor.now c.loop-params.cursor c.param_type.new.cursor c.name.new.cursor c.name.new.cursor c.loop-params.params c.in_err-name.field-0.0 c.loop-params.invariant c.in_ok-ty.ensures c.in_err-name.ensures)

pub loop-params-smaller : goal.loop-params-smaller
loop-params-smaller c = params_shrink c.in_ok-ty.ty c.in_ok-name.name c.in_ok-name.name_span c.loop-params.cursor c.param_type.new.cursor c.name.new.cursor c.may.new.self c.in_ok-ty.ensures c.in_ok-name.ensures c.in-Some.ensures.shorter

pub loop-params-preserved : goal.loop-params-preserved
loop-params-preserved c = more_params c.in_ok-ty.ty c.in_ok-name.name c.in_ok-name.name_span c.in-Some.field-0 c.args.cursor.now c.loop-params.cursor c.param_type.new.cursor c.name.new.cursor c.may.new.self c.loop-params.params c.in_ok-params.params c.loop-params.invariant c.in_ok-ty.ensures c.in_ok-name.ensures c.in_ok-params.ensures c.in-Some.ensures.taken

pub returns-in_err-take-in-None : goal.returns-in_err-take-in-None
returns-in_err-take-in-None c =
    let p = err_from_is_err_and c.from_residual-in_err-take-in-None.result c.from_residual-in_err-take-in-None.ensures.1 in
    rw (p.1, p.2) (params_open c.in_ok-ty.ty c.in_ok-name.name c.in_ok-name.name_span c.args.cursor.now c.loop-params.cursor c.param_type.new.cursor c.name.new.cursor c.may.new.self c.take.new.self c.loop-params.params c.in_err-take-in-None.field-0.0 c.loop-params.invariant c.in_ok-ty.ensures c.in_ok-name.ensures c.in-None.ensures.taken c.in_err-take-in-None.ensures)

pub returns-in-None : goal.returns-in-None
returns-in-None c = params_end c.in_ok-ty.ty c.in_ok-name.name c.in_ok-name.name_span c.in_ok-take-in-None.field-0 c.args.cursor.now c.loop-params.cursor c.param_type.new.cursor c.name.new.cursor c.may.new.self c.take.new.self c.loop-params.params c.in_ok-params.params c.loop-params.invariant c.in_ok-ty.ensures c.in_ok-name.ensures c.in_ok-params.ensures c.in-None.ensures.taken c.in_ok-take-in-None.ensures
