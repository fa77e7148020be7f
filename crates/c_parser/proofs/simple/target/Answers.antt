use Rattle.std.proofs.lemmas.Result.{err_from_is_err_and}
use Rattle.c_parser.proofs.SimpleTaken.{target_taken, target_untaken}
use Rattle.c_parser.proofs.simple.target.Goals as goal

pub returns-in_err-subs : goal.returns-in_err-subs
returns-in_err-subs c =
    let p = err_from_is_err_and c.from_residual.result c.from_residual.ensures.1 in
    rw (p.1, p.2) (target_untaken c.args.name c.args.at c.args.cursor.now c.subscripts.new.cursor c.in_err-subs.field-0.0 c.in_err-subs.ensures)

pub returns : goal.returns
returns c = target_taken c.args.name c.args.at c.in_ok-subs.last c.args.cursor.now c.subscripts.new.cursor c.in_ok-subs.subs c.spanning-span.result c.target_node.result c.spanning-span.ensures c.in_ok-subs.ensures c.target_node.ensures
