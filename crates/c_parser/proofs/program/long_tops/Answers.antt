use Rattle.std.proofs.lemmas.Result.{err_from_is_err_and}
use Rattle.std.proofs.Common.{refl}
use Rattle.c_tree.specs.declared.tree.Ty.TheVariants as ty
use Rattle.c_parser.specs.Items.{items_of}
use Rattle.c_grammar.specs.Goals.{may, input_word, long_goal, reader_goal, global_named}
use Rattle.c_parser.proofs.SimpleTaken.{fails_by}
use Rattle.c_parser.proofs.TopsTaken.{item_added, items_led}
use Rattle.c_parser.proofs.program.long_tops.Goals as goal

pub returns-in_err-long_rest : goal.returns-in_err-long_rest
returns-in_err-long_rest c =
    let p = err_from_is_err_and c.from_residual.result c.from_residual.ensures.1 in
    rw (p.1, p.2) (λ f. c.in_err-long_rest.ensures _)

pub returns-in_err-item-in-Some : goal.returns-in_err-item-in-Some
returns-in_err-item-in-Some c =
    let p = err_from_is_err_and c.from_residual-in_err-item-in-Some.result c.from_residual-in_err-item-in-Some.ensures.1 in
    rw (p.1, p.2) (λ f. fails_by _ _ c.args.cursor.now c.may.new.self c.in_err-item-in-Some.field-0.0 (λ o h. c.in_ok-long_rest.ensures _ o (c.in-Some.ensures.taken (λ b. reader_goal c.args.at.start f) (global_named ty.Long c.args.at.start f) o h)) (c.in_err-item-in-Some.ensures f))

pub returns-in_err-items-in-None : goal.returns-in_err-items-in-None
returns-in_err-items-in-None c =
    let p = err_from_is_err_and c.from_residual-in_err-items-in-None.result c.from_residual-in_err-items-in-None.ensures.1 in
    rw (p.1, p.2) (λ f. fails_by _ _ c.args.cursor.now c.may.new.self c.in_err-items-in-None.field-0.0 (λ o h. c.in_ok-long_rest.ensures _ o (c.in-None.ensures.taken (λ b. reader_goal c.args.at.start f) (global_named ty.Long c.args.at.start f) o h)) (c.in_err-items-in-None.ensures f))

pub returns-in_ok-items-in-Some : goal.returns-in_ok-items-in-Some
returns-in_ok-items-in-Some c = items_led (long_goal c.args.at) (reader_goal c.args.at.start) (items_of c.args.items) c.args.cursor.now c.may.new.self c.reader.new.cursor c.in_ok-items-in-Some.items (λ f o h. c.in_ok-long_rest.ensures _ o (c.in-Some.ensures.taken (λ b. reader_goal c.args.at.start f) (global_named ty.Long c.args.at.start f) o h)) (item_added (reader_goal c.args.at.start) (items_of c.args.items) c.may.new.self c.reader.new.cursor c.args.items c.in_ok-items-in-Some.items c.in_ok-item-in-Some.item refl c.in_ok-item-in-Some.ensures c.in_ok-items-in-Some.ensures)
