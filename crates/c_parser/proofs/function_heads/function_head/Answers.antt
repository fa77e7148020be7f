use Rattle.std.proofs.lemmas.Result.{err_from_is_err_and}
use Rattle.c_grammar.specs.Goals.{function_body}
use Rattle.c_parser.proofs.SimpleTaken.{fails_by}
use Rattle.c_parser.proofs.function_heads.function_head.Goals as goal

pub returns-in_err-take : goal.returns-in_err-take
returns-in_err-take c =
    let p = err_from_is_err_and c.from_residual.result c.from_residual.ensures.1 in
    rw (p.1, p.2) (λ a f. c.in_err-take.ensures _)

pub returns-in_err-name : goal.returns-in_err-name
returns-in_err-name c =
    let p = err_from_is_err_and c.from_residual-in_err-name.result c.from_residual-in_err-name.ensures.1 in
    rw (p.1, p.2) (λ a f. fails_by _ _ c.args.cursor.now c.take.new.self c.in_err-name.field-0.0 (λ o h. c.in_ok-take.ensures _ o h) (c.in_err-name.ensures _))

pub returns-in_err-take-2 : goal.returns-in_err-take-2
returns-in_err-take-2 c =
    let p = err_from_is_err_and c.from_residual-in_err-take-2.result c.from_residual-in_err-take-2.ensures.1 in
    rw (p.1, p.2) (λ a f. fails_by _ _ c.args.cursor.now c.name.new.cursor c.in_err-take-2.field-0.0 (λ o h. c.in_ok-take.ensures _ o (c.in_ok-name.ensures _ o h)) (c.in_err-take-2.ensures _))

pub returns-in_err-params : goal.returns-in_err-params
returns-in_err-params c =
    let p = err_from_is_err_and c.from_residual-in_err-params.result c.from_residual-in_err-params.ensures.1 in
    rw (p.1, p.2) (λ a f. fails_by _ _ c.args.cursor.now c.take-2.new.self c.in_err-params.field-0.0 (λ o h. c.in_ok-take.ensures _ o (c.in_ok-name.ensures _ o (c.in_ok-take-2.ensures _ o h))) (c.in_err-params.ensures (λ ps. function_body a c.in_ok-name.name c.in_ok-name.name_span ps f)))

pub returns-in_err-take-3 : goal.returns-in_err-take-3
returns-in_err-take-3 c =
    let p = err_from_is_err_and c.from_residual-in_err-take-3.result c.from_residual-in_err-take-3.ensures.1 in
    rw (p.1, p.2) (λ a f. fails_by _ _ c.args.cursor.now c.parameters.new.cursor c.in_err-take-3.field-0.0 (λ o h. c.in_ok-take.ensures _ o (c.in_ok-name.ensures _ o (c.in_ok-take-2.ensures _ o (c.in_ok-params.ensures (λ ps. function_body a c.in_ok-name.name c.in_ok-name.name_span ps f) o h)))) (c.in_err-take-3.ensures _))

pub returns : goal.returns
returns c = λ a f o h. c.in_ok-take.ensures _ o (c.in_ok-name.ensures _ o (c.in_ok-take-2.ensures _ o (c.in_ok-params.ensures (λ ps. function_body a c.in_ok-name.name c.in_ok-name.name_span ps f) o (c.in_ok-take-3.ensures _ o h))))
