use Rattle.std.proofs.lemmas.Result.{err_from_is_err_and}
use Rattle.std.proofs.Common.{refl}
use Rattle.c_tree.specs.declared.tree.Ty.TheVariants as ty
use Rattle.c_parser.specs.Items.{items_of}
use Rattle.c_grammar.specs.Goals.{int_goal, main_goal, global_named}
use Rattle.c_parser.proofs.SimpleTaken.{fails_by}
use Rattle.c_parser.proofs.TopsTaken.{last_added, all_led}
use Rattle.c_parser.proofs.program.int_tops.Goals as goal

pub returns-in_err-item-in-Some : goal.returns-in_err-item-in-Some
returns-in_err-item-in-Some c =
    let p = err_from_is_err_and c.from_residual.result c.from_residual.ensures.1 in
    rw (p.1, p.2) (λ f. fails_by _ _ c.args.cursor.now c.may.new.self c.in_err-item-in-Some.field-0.0 (λ o h. c.in-Some.ensures.taken (λ b. main_goal c.args.at f) (global_named ty.Int c.args.at.start f) o h) (c.in_err-item-in-Some.ensures f))

pub returns-in_err-items-in-None : goal.returns-in_err-items-in-None
returns-in_err-items-in-None c =
    let p = err_from_is_err_and c.from_residual-in_err-items-in-None.result c.from_residual-in_err-items-in-None.ensures.1 in
    rw (p.1, p.2) (λ f. fails_by _ _ c.args.cursor.now c.may.new.self c.in_err-items-in-None.field-0.0 (λ o h. c.in-None.ensures.taken (λ b. main_goal c.args.at f) (global_named ty.Int c.args.at.start f) o h) (c.in_err-items-in-None.ensures f))

pub returns-in_ok-items-in-Some : goal.returns-in_ok-items-in-Some
returns-in_ok-items-in-Some c = all_led (int_goal c.args.at) (main_goal c.args.at) (items_of c.args.items) c.args.cursor.now c.may.new.self c.main_function.new.cursor c.in_ok-items-in-Some.items (λ f o h. c.in-Some.ensures.taken (λ b. main_goal c.args.at f) (global_named ty.Int c.args.at.start f) o h) (last_added (main_goal c.args.at) (items_of c.args.items) c.may.new.self c.main_function.new.cursor c.args.items c.in_ok-items-in-Some.items c.in_ok-item-in-Some.item refl c.in_ok-item-in-Some.ensures c.in_ok-items-in-Some.ensures)
