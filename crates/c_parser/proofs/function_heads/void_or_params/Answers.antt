use Rattle.std.proofs.lemmas.Result.{err_from_is_err_and}
use Rattle.std.proofs.Common.{[]}
use Rattle.c_grammar.specs.Goals.{takes, round_close}
use Rattle.c_parser.specs.FunctionHeads.{void_or_params, params_goal}
use Rattle.c_parser.proofs.SimpleTaken.{fails_by}
use Rattle.c_parser.proofs.FunctionHeadsTaken.{params_led}
use Rattle.c_parser.proofs.function_heads.void_or_params.Goals as goal

pub returns-in_err-take-in-Some : goal.returns-in_err-take-in-Some
returns-in_err-take-in-Some c =
    let p = err_from_is_err_and c.from_residual.result c.from_residual.ensures.1 in
    rw (p.1, p.2) (λ f. fails_by _ _ c.args.cursor.now c.may.new.self c.in_err-take-in-Some.field-0.0 (λ o h. c.in-Some.ensures.taken _ (params_goal f) o h) (c.in_err-take-in-Some.ensures _))

pub returns-in-None : goal.returns-in-None
returns-in-None c = params_led void_or_params params_goal c.args.cursor.now c.may.new.self c.params.new.cursor c.params.result (λ f o h. c.in-None.ensures.taken (λ v. takes round_close (λ e. f [])) (params_goal f) o h) c.params.ensures
