use Rattle.c_parser.proofs.TerminalsTaken.{stopped, not_stopped}
use Rattle.c_parser.proofs.terminals.stop.Goals as goal

pub returns-then-goes_on : goal.returns-then-goes_on
returns-then-goes_on c = not_stopped c.first.result.now c.args.cursor.now c.terminal_of.result c.goes_on.result c.blamed.result c.first.ensures.first c.terminal_of.ensures c.goes_on.ensures c.if-goes_on.true c.blamed.ensures

pub returns-else-goes_on : goal.returns-else-goes_on
returns-else-goes_on c = stopped c.first.result.now c.args.cursor.now c.terminal_of.result c.goes_on.result tt c.first.ensures.first c.terminal_of.ensures c.goes_on.ensures c.if-goes_on.false
