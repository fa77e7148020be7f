use Rattle.std.proofs.lemmas.Result.{err_from_is_err_and}
use Rattle.c_tree.specs.Placed.{define}
use Rattle.c_grammar.specs.Programs.{started}
use Rattle.c_parser.proofs.SimpleTaken.{fails_by}
use Rattle.c_parser.proofs.items.define.Goals as goal

pub returns-in_err-take : goal.returns-in_err-take
returns-in_err-take c =
    let p = err_from_is_err_and c.from_residual.result c.from_residual.ensures.1 in
    rw (p.1, p.2) (λ f. c.in_err-take.ensures _)

pub returns-in_err-name : goal.returns-in_err-name
returns-in_err-name c =
    let p = err_from_is_err_and c.from_residual-in_err-name.result c.from_residual-in_err-name.ensures.1 in
    rw (p.1, p.2) (λ f. fails_by _ _ c.args.cursor.now c.take.new.self c.in_err-name.field-0.0 (λ o h. c.in_ok-take.ensures _ o h) (c.in_err-name.ensures _))

pub returns-in_err-constant : goal.returns-in_err-constant
returns-in_err-constant c =
    let p = err_from_is_err_and c.from_residual-in_err-constant.result c.from_residual-in_err-constant.ensures.1 in
    rw (p.1, p.2) (λ f. fails_by _ _ c.args.cursor.now c.name.new.cursor c.in_err-constant.field-0.0 (λ o h. c.in_ok-take.ensures _ o (c.in_ok-name.ensures _ o h)) (c.in_err-constant.ensures _))

pub returns-in_err-take-2 : goal.returns-in_err-take-2
returns-in_err-take-2 c =
    let p = err_from_is_err_and c.from_residual-in_err-take-2.result c.from_residual-in_err-take-2.ensures.1 in
    rw (p.1, p.2) (λ f. fails_by _ _ c.args.cursor.now c.value.new.cursor c.in_err-take-2.field-0.0 (λ o h. c.in_ok-take.ensures _ o (c.in_ok-name.ensures _ o (c.in_ok-constant.ensures _ o h))) (c.in_err-take-2.ensures _))

pub returns : goal.returns
returns c = (started c.args.at.start (define c.in_ok-name.name c.in_ok-constant.constant.negative c.in_ok-constant.constant.value c.in_ok-constant.constant.ty c.in_ok-name.name_span), c.define_item.ensures, λ f o h. c.in_ok-take.ensures _ o (c.in_ok-name.ensures _ o (c.in_ok-constant.ensures _ o (c.in_ok-take-2.ensures _ o h))))
