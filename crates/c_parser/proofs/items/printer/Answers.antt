use Rattle.std.proofs.lemmas.Result.{err_from_is_err_and}
use Rattle.c_tree.specs.Placed.{extern_}
use Rattle.c_tree.specs.declared.tree.Port.TheVariants as port
use Rattle.c_grammar.specs.Programs.{started}
use Rattle.c_parser.proofs.SimpleTaken.{fails_by}
use Rattle.c_parser.proofs.items.printer.Goals as goal

pub returns-in_err-take : goal.returns-in_err-take
returns-in_err-take c =
    let p = err_from_is_err_and c.from_residual.result c.from_residual.ensures.1 in
    rw (p.1, p.2) (λ f. c.in_err-take.ensures _)

pub returns-in_err-print_parameter : goal.returns-in_err-print_parameter
returns-in_err-print_parameter c =
    let p = err_from_is_err_and c.from_residual-in_err-print_parameter.result c.from_residual-in_err-print_parameter.ensures.1 in
    rw (p.1, p.2) (λ f. fails_by _ _ c.args.cursor.now c.take.new.self c.in_err-print_parameter.field-0.0 (λ o h. c.in_ok-take.ensures _ o h) (c.in_err-print_parameter.ensures _))

pub returns-in_err-last : goal.returns-in_err-last
returns-in_err-last c =
    let p = err_from_is_err_and c.from_residual-in_err-last.result c.from_residual-in_err-last.ensures.1 in
    rw (p.1, p.2) (λ f. fails_by _ _ c.args.cursor.now c.print_parameter.new.cursor c.in_err-last.field-0.0 (λ o h. c.in_ok-take.ensures _ o (c.in_ok-print_parameter.ensures _ o h)) (c.in_err-last.ensures _))

pub returns : goal.returns
returns c = (started c.args.from (extern_ port.Print (record { start = c.args.from; end = c.in_ok-last.last.end })), c.port_item.ensures, λ f o h. c.in_ok-take.ensures _ o (c.in_ok-print_parameter.ensures _ o (c.in_ok-last.ensures _ o h)))
