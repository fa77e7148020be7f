use Rattle.pragma_grammar.specs.Symbols.{symbol}
use Rattle.pragma_grammar.specs.Stands.{kept_of}
use Rattle.pragma_grammar.proofs.Turns.{not_end, at_square}
use Rattle.pragma_grammar.proofs.reading.end_at.Goals as goal

pub returns-then-is_square_open : goal.returns-then-is_square_open
returns-then-is_square_open c = λ k. at_square (kept_of c.args.operand) c.args.at (symbol c.args.token.now) c.terminal_of.result c.is_square_open.result c.terminal_of.ensures c.is_square_open.ensures c.if-is_square_open.true

pub returns-else-is_square_open : goal.returns-else-is_square_open
returns-else-is_square_open c = λ k. not_end (kept_of c.args.operand) c.args.at (symbol c.args.token.now) c.terminal_of.result c.is_square_open.result c.terminal_of.ensures c.is_square_open.ensures c.if-is_square_open.false
