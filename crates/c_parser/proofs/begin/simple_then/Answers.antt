use Rattle.std.proofs.lemmas.Result.{err_from_is_err_and}
use Rattle.c_grammar.specs.Goals.{ends_statement}
use Rattle.c_parser.proofs.SimplesTaken.{stmt_passed}
use Rattle.c_parser.proofs.begin.simple_then.Goals as goal

pub returns-in_err-simple : goal.returns-in_err-simple
returns-in_err-simple c =
    let p = err_from_is_err_and c.from_residual.result c.from_residual.ensures.1 in
    rw (p.1, p.2) (λ f. c.in_err-simple.ensures (ends_statement f))

pub returns : goal.returns
returns c = stmt_passed _ _ c.args.cursor.now c.take_simple.new.cursor c.end_simple.new.cursor c.end_simple.result (λ f. c.in_ok-simple.ensures.2 (ends_statement f)) (c.end_simple.ensures c.in_ok-simple.ensures.0 c.in_ok-simple.field-0-1 c.in_ok-simple.ensures.1)
