use Rattle.std.proofs.Common.{◌≡◌, subst, IfOk}
use Rattle.pragma_grammar.specs.Symbols.{symbol}
use Rattle.pragma_grammar.specs.Stands.{kept_of, phrases, turned}
use Rattle.pragma_grammar.proofs.Turns.{turn_closes}
use Rattle.pragma_grammar.proofs.reading.take_turn.Goals as goal

pub returns-in-None-clause-turned : goal.returns-in-None-clause-turned
returns-in-None-clause-turned c =
    subst (λ z. IfOk c.close.result (λ t. turned t (phrases c.close.new.stack.items) (symbol c.args.token.now) ≡ z))
    (turn_closes (phrases c.args.stack.now.items) c.asks.result c.args.row (kept_of c.args.operand) c.args.at (symbol c.args.token.now) c.terminal_of.result c.goes_on.result c.goes_on.ensures c.in-None.is c.asks.ensures c.terminal_of.ensures)
    c.close.ensures.turned
