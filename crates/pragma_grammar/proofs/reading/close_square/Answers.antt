use Rattle.pragma_grammar.specs.Symbols.{symbol}
use Rattle.pragma_grammar.specs.Kept.{keep_subscript}
use Rattle.pragma_grammar.specs.Stands.{kept_of, kept_list_of}
use Rattle.pragma_grammar.proofs.Turns.{not_square}
use Rattle.pragma_grammar.proofs.reading.close_square.Goals as goal

pub returns-else-is_square_close : goal.returns-else-is_square_close
returns-else-is_square_close c = λ k. not_square c.args.name c.args.first (keep_subscript (kept_list_of c.args.subscripts) (kept_of c.args.operand)) k (symbol c.args.token.now) c.terminal_of.result c.is_square_close.result c.terminal_of.ensures c.is_square_close.ensures c.if-is_square_close.false
