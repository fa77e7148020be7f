use Rattle.std.proofs.lemmas.Result.{err_from_is_err_and}
use Rattle.c_parser.proofs.Parsed.{no_items, no_end, parsed}
use Rattle.c_parser.proofs.program.parse.Goals as goal

pub returns-in_err-items : goal.returns-in_err-items
returns-in_err-items c =
    let p = err_from_is_err_and c.from_residual.result c.from_residual.ensures.1 in
    rw (p.1, p.2) (no_items c.args.tokens.now c.new-cursor.result c.all_items.new.cursor c.in_err-items.field-0.0 c.new-cursor.ensures c.in_err-items.ensures)

pub returns-in_err-end : goal.returns-in_err-end
returns-in_err-end c =
    let p = err_from_is_err_and c.from_residual-in_err-end.result c.from_residual-in_err-end.ensures.1 in
    rw (p.1, p.2) (no_end c.args.tokens.now c.new-cursor.result c.all_items.new.cursor c.in_ok-items.items c.in_err-end.field-0.0 c.new-cursor.ensures c.in_ok-items.ensures c.in_err-end.ensures)

pub returns : goal.returns
returns c = parsed c.args.tokens.now c.new-cursor.result c.all_items.new.cursor c.in_ok-items.items c.in_ok-end.field-0 c.whole.result c.new-cursor.ensures c.in_ok-items.ensures c.in_ok-end.ensures c.whole.ensures
