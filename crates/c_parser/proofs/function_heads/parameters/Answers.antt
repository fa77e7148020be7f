use Rattle.std.proofs.Common.{[]}
use Rattle.c_parser.specs.FunctionHeads.{parameters_goal, void_or_params}
use Rattle.c_parser.proofs.FunctionHeadsTaken.{params_led}
use Rattle.c_parser.proofs.function_heads.parameters.Goals as goal

pub returns-in-None : goal.returns-in-None
returns-in-None c = params_led parameters_goal void_or_params c.args.cursor.now c.may.new.self c.void_or_params.new.cursor c.void_or_params.result (λ f o h. c.in-None.ensures.taken (λ e. f []) _ o h) c.void_or_params.ensures
