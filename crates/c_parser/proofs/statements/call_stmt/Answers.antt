use Rattle.std.proofs.lemmas.Result.{err_from_is_err_and}
use Rattle.c_parser.proofs.SimpleTaken.{fails_by}
use Rattle.c_tree.specs.Placed.{call}
use Rattle.pragma_grammar.specs.Symbols.{spanning}
use Rattle.c_grammar.specs.Goals.{takes, semicolon}
use Rattle.c_parser.proofs.Built.{built_call}
use Rattle.c_parser.proofs.statements.call_stmt.Goals as goal

pub returns-in_err-args : goal.returns-in_err-args
returns-in_err-args c =
    let p = err_from_is_err_and c.from_residual.result c.from_residual.ensures.1 in
    rw (p.1, p.2) (λ f. c.in_err-args.ensures (λ es. takes semicolon (λ z. f (call c.args.name c.args.at es (spanning c.args.at z)) z)))

pub returns-in_err-last : goal.returns-in_err-last
returns-in_err-last c =
    let p = err_from_is_err_and c.from_residual-in_err-last.result c.from_residual-in_err-last.ensures.1 in
    rw (p.1, p.2) (λ f. fails_by _ _ c.args.cursor.now c.arguments.new.cursor c.in_err-last.field-0.0 (λ o h. c.in_ok-args.ensures.2 (λ es. takes semicolon (λ z. f (call c.args.name c.args.at es (spanning c.args.at z)) z)) o h) (c.in_err-last.ensures _))

pub returns : goal.returns
returns c = (call c.args.name c.args.at c.in_ok-args.ensures.0 (spanning c.args.at c.in_ok-last.last), built_call _ _ c.args.name c.args.at c.in_ok-args.ensures.0 (spanning c.args.at c.in_ok-last.last) c.spanning.result c.spanning.ensures c.call.ensures c.in_ok-args.ensures.1, λ f o h. c.in_ok-args.ensures.2 (λ es. takes semicolon (λ z. f (call c.args.name c.args.at es (spanning c.args.at z)) z)) o (c.in_ok-last.ensures _ o h))
