-- The heads of functions and of `main`, as they are taken from the tokens that are left.
use Rattle.std.specs.Prelude.{true, false, List, [], ◌∷◌, map, Result, Ok, Err}
use Rattle.c_tree.specs.Placed as placed
use Rattle.c_tree.specs.Placed.{function, main}
use Rattle.c_tree.specs.PlacedOf.{placed_param}
use Rattle.c_tree.specs.declared.tree.Span.{Span}
use Rattle.c_tree.specs.declared.tree.Ty.{Ty}
use Rattle.c_tree.specs.declared.tree.Param.{Param}
use Rattle.c_lexer.specs.declared.token.Token.{Token}
use Rattle.pragma_grammar.specs.declared.phrase.ParseFault.{ParseFault}
use Rattle.pragma_grammar.specs.Symbols.{spanning}
use Rattle.c_parser.specs.declared.function_heads.FunctionHead.{FunctionHead}
use Rattle.c_grammar.specs.Programs.{Started, started}
use Rattle.c_grammar.specs.Goals.{Goal, takes, may, params, param_named, units, tops, round_close, void_word, function_goal, main_goal}
use Rattle.c_parser.specs.Comes.{Leads, Fails}

-- the type of a parameter
abbrev pub IsParamTypeTaken : List Token → Result Ty ParseFault → List Token → Type 0
IsParamTypeTaken ts (Ok ty) us = (f : List placed.Param → Span → Goal) → Leads (params f) ts (param_named ty f) us
IsParamTypeTaken ts (Err fault) us = (f : List placed.Param → Span → Goal) → Fails (params f) ts fault

-- parameters, whose goal is given
abbrev pub ParamsGoal : Type 0
ParamsGoal = (List placed.Param → Goal) → Goal

abbrev pub AreParamsRead : ParamsGoal → List Token → Result (List Param) ParseFault → List Token → Type 0
AreParamsRead x ts (Ok ps) us = (f : List placed.Param → Goal) → Leads (x f) ts (f (map placed_param ps)) us
AreParamsRead x ts (Err fault) us = (f : List placed.Param → Goal) → Fails (x f) ts fault

-- with commas between them, through `)`
abbrev pub params_goal : ParamsGoal
params_goal f = params (λ ps z. f ps)

-- `void )`, or parameters
abbrev pub void_or_params : ParamsGoal
void_or_params f = may void_word (λ v. takes round_close (λ e. f [])) (params_goal f)

-- what stands between a function's parentheses, and its `)`
abbrev pub parameters_goal : ParamsGoal
parameters_goal f = may round_close (λ e. f []) (void_or_params f)

-- ---- heads through `{`, of an item whose first token stands at `a`

abbrev pub IsFunctionHeadTaken : List Token → Result FunctionHead ParseFault → List Token → Type 0
IsFunctionHeadTaken ts (Ok h) us = (a : Span) (f : List Started → Goal)
    → Leads (function_goal a f) ts (units false (λ ss z. tops (λ more. f (started a.start (function h.name h.name_span (map placed_param h.params) ss (spanning a z)) ∷ more)))) us
IsFunctionHeadTaken ts (Err fault) us = (a : Span) (f : List Started → Goal) → Fails (function_goal a f) ts fault

abbrev pub IsMainHeadTaken : List Token → Result (Unit {0}) ParseFault → List Token → Type 0
IsMainHeadTaken ts (Ok r) us = (a : Span) (f : List Started → Goal) → Leads (main_goal a f) ts (units true (λ ss z. f (started a.start (main ss (spanning a z)) ∷ []))) us
IsMainHeadTaken ts (Err fault) us = (a : Span) (f : List Started → Goal) → Fails (main_goal a f) ts fault
