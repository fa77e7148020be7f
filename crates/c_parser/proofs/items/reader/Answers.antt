use Rattle.std.proofs.lemmas.Result.{err_from_is_err_and}
use Rattle.c_tree.specs.Placed.{extern_}
use Rattle.c_tree.specs.declared.tree.Port.TheVariants as port
use Rattle.c_grammar.specs.Programs.{started}
use Rattle.c_parser.proofs.SimpleTaken.{fails_by}
use Rattle.c_parser.proofs.ItemsTaken.{may_either}
use Rattle.c_parser.proofs.items.reader.Goals as goal

pub returns-in_err-take : goal.returns-in_err-take
returns-in_err-take c =
    let p = err_from_is_err_and c.from_residual.result c.from_residual.ensures.1 in
    rw (p.1, p.2) (λ f. c.in_err-take.ensures _)

pub returns-in_err-last : goal.returns-in_err-last
returns-in_err-last c =
    let p = err_from_is_err_and c.from_residual-in_err-last.result c.from_residual-in_err-last.ensures.1 in
    rw (p.1, p.2) (λ f. fails_by _ _ c.args.cursor.now c.may.new.self c.in_err-last.field-0.0 (λ o h. c.in_ok-take.ensures _ o (may_either _ c.take.new.self c.may.new.self c.may.result c.may.ensures.taken _ o h)) (c.in_err-last.ensures _))

pub returns : goal.returns
returns c = (started c.args.from (extern_ port.Input (record { start = c.args.from; end = c.in_ok-last.last.end })), c.port_item.ensures, λ f o h. c.in_ok-take.ensures _ o (may_either _ c.take.new.self c.may.new.self c.may.result c.may.ensures.taken _ o (c.in_ok-last.ensures _ o h)))
