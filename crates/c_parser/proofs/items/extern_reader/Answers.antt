use Rattle.std.proofs.lemmas.Result.{err_from_is_err_and}
use Rattle.c_parser.proofs.SimpleTaken.{fails_by}
use Rattle.c_grammar.specs.Goals.{reader_goal}
use Rattle.c_parser.specs.Items.{extern_reader_goal}
use Rattle.c_parser.proofs.ItemsTaken.{item_led}
use Rattle.c_parser.proofs.items.extern_reader.Goals as goal

pub returns-in_err-take : goal.returns-in_err-take
returns-in_err-take c =
    let p = err_from_is_err_and c.from_residual.result c.from_residual.ensures.1 in
    rw (p.1, p.2) (λ f. c.in_err-take.ensures _)

pub returns-in_err-long_rest : goal.returns-in_err-long_rest
returns-in_err-long_rest c =
    let p = err_from_is_err_and c.from_residual-in_err-long_rest.result c.from_residual-in_err-long_rest.ensures.1 in
    rw (p.1, p.2) (λ f. fails_by _ _ c.args.cursor.now c.take.new.self c.in_err-long_rest.field-0.0 (λ o h. c.in_ok-take.ensures _ o h) (c.in_err-long_rest.ensures _))

pub returns-in_err-take-2 : goal.returns-in_err-take-2
returns-in_err-take-2 c =
    let p = err_from_is_err_and c.from_residual-in_err-take-2.result c.from_residual-in_err-take-2.ensures.1 in
    rw (p.1, p.2) (λ f. fails_by _ _ c.args.cursor.now c.long_rest.new.cursor c.in_err-take-2.field-0.0 (λ o h. c.in_ok-take.ensures _ o (c.in_ok-long_rest.ensures _ o h)) (c.in_err-take-2.ensures _))

pub returns : goal.returns
returns c = item_led (extern_reader_goal c.args.from) (reader_goal c.args.from) c.args.cursor.now c.take-2.new.self c.reader.new.cursor c.reader.result (λ f o h. c.in_ok-take.ensures _ o (c.in_ok-long_rest.ensures _ o (c.in_ok-take-2.ensures _ o h))) c.reader.ensures
