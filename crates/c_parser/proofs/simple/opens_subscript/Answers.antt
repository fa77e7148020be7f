use Rattle.c_parser.proofs.SimpleTaken.{past_square, subscript_opens, subscript_closed}
use Rattle.c_parser.proofs.simple.opens_subscript.Goals as goal

pub advance-requires : goal.advance-requires
advance-requires c = past_square c.first.result.now c.args.cursor.now c.terminal_of.result c.is_square_open.result c.first.ensures.ended c.first.ensures.first c.terminal_of.ensures c.is_square_open.ensures c.if-is_square_open.true

pub returns-then-is_square_open : goal.returns-then-is_square_open
returns-then-is_square_open c = subscript_opens c.first.result.now c.args.cursor.now c.advance.new.self c.terminal_of.result c.is_square_open.result c.first.ensures.first c.advance.ensures c.terminal_of.ensures c.is_square_open.ensures c.if-is_square_open.true

pub returns-else-is_square_open : goal.returns-else-is_square_open
returns-else-is_square_open c = subscript_closed c.first.result.now c.args.cursor.now c.terminal_of.result c.is_square_open.result c.first.ensures.first c.terminal_of.ensures c.is_square_open.ensures c.if-is_square_open.false
