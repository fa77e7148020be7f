use Rattle.pragma_grammar.specs.Symbols.{symbol}
use Rattle.pragma_grammar.specs.Stands.{kept_of, phrases}
use Rattle.pragma_grammar.proofs.Turns.{not_colon}
use Rattle.pragma_grammar.proofs.reading.close_test.Goals as goal

pub returns-else-is_colon : goal.returns-else-is_colon
returns-else-is_colon c = not_colon (kept_of c.args.test) c.args.first (kept_of c.args.operand) (phrases c.args.stack.now.items) (symbol c.args.token.now) c.terminal_of.result c.is_colon.result c.terminal_of.ensures c.is_colon.ensures c.if-is_colon.false
