use Rattle.std.proofs.lemmas.Result.{err_from_is_err_and}
use Rattle.c_tree.specs.Placed.{no_stmts}
use Rattle.c_grammar.specs.Goals.{takes, semicolon, curly_close}
use Rattle.c_parser.proofs.UnitsTaken.{return_taken}
use Rattle.c_parser.proofs.SimpleTaken.{fails_by}
use Rattle.c_parser.proofs.units.returned.Goals as goal

pub returns-in_err-zero : goal.returns-in_err-zero
returns-in_err-zero c =
    let p = err_from_is_err_and c.from_residual.result c.from_residual.ensures.1 in
    rw (p.1, p.2) (λ f. c.in_err-zero.ensures (takes semicolon (λ c. takes curly_close (λ z. f no_stmts z))))

pub returns-in_err-take : goal.returns-in_err-take
returns-in_err-take c =
    let p = err_from_is_err_and c.from_residual-in_err-take.result c.from_residual-in_err-take.ensures.1 in
    rw (p.1, p.2) (λ f. fails_by _ _ c.args.cursor.now c.zero.new.cursor c.in_err-take.field-0.0 (c.in_ok-zero.ensures (takes semicolon (λ c. takes curly_close (λ z. f no_stmts z)))) (c.in_err-take.ensures (λ c. takes curly_close (λ z. f no_stmts z))))

pub returns : goal.returns
returns c = return_taken c.args.cursor.now c.zero.new.cursor c.take.new.self c.take-2.new.self c.in_ok-take.field-0 c.take-2.result c.in_ok-zero.ensures c.in_ok-take.ensures c.take-2.ensures
