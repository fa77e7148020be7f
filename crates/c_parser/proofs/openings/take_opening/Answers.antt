use Rattle.c_parser.proofs.Opening.{opening_taken, no_opening}
use Rattle.c_parser.proofs.openings.take_opening.Goals as goal

pub returns-in-Some : goal.returns-in-Some
returns-in-Some c = opening_taken c.first-token.result.now c.args.cursor.now c.advance.new.self c.terminal_of.result c.in-Some.opening c.first-token.ensures.first c.advance.ensures c.terminal_of.ensures c.in-Some.ensures

pub returns-in-None : goal.returns-in-None
returns-in-None c = no_opening c.first-token.result.now c.args.cursor.now c.args.cursor.now c.terminal_of.result c.blamed.result c.first-token.ensures.first c.terminal_of.ensures c.in-None.ensures c.blamed.ensures
