use Rattle.std.proofs.lemmas.Result.{err_from_is_err_and}
use Rattle.std.proofs.Common.{refl}
use Rattle.c_parser.specs.Items.{items_of}
use Rattle.c_parser.specs.Openings.{single_goal}
use Rattle.c_parser.proofs.TopsTaken.{item_added, single_read, single_unread}
use Rattle.c_parser.proofs.program.take_tops.Goals as goal

pub returns-in_err-item-in-One : goal.returns-in_err-item-in-One
returns-in_err-item-in-One c =
    let p = err_from_is_err_and c.from_residual.result c.from_residual.ensures.1 in
    rw (p.1, p.2) (single_unread c.args.opening c.in-One.first c.args.at (items_of c.args.items) c.args.cursor.now c.take_single.new.cursor c.in_err-item-in-One.field-0.0 c.in-One.is c.in_err-item-in-One.ensures)

pub returns-in_ok-items-in-One : goal.returns-in_ok-items-in-One
returns-in_ok-items-in-One c = single_read c.args.opening c.in-One.first c.args.at (items_of c.args.items) c.args.cursor.now c.take_single.new.cursor c.in_ok-items-in-One.items c.in-One.is (item_added (single_goal c.in-One.first c.args.at) (items_of c.args.items) c.args.cursor.now c.take_single.new.cursor c.args.items c.in_ok-items-in-One.items c.in_ok-item-in-One.item refl c.in_ok-item-in-One.ensures c.in_ok-items-in-One.ensures)
