use Rattle.c_parser.proofs.ItemsTaken.{name_passed, no_name}
use Rattle.c_parser.proofs.items.may_name.Goals as goal

pub returns-in-Name : goal.returns-in-Name
returns-in-Name c = name_passed c.first.result.now c.args.cursor.now c.advance.new.self c.terminal_of.result c.first.ensures.first c.advance.ensures c.terminal_of.ensures c.in-Name.is

pub returns-in_default : goal.returns-in_default
returns-in_default c = no_name c.first.result.now c.args.cursor.now c.terminal_of.result c.first.ensures.first c.terminal_of.ensures c.in_default.not-Name
