use Rattle.c_parser.proofs.IfElse.{if_else_node}
use Rattle.c_parser.proofs.nodes.if_else.Goals as goal

pub returns-in-Whole-no : goal.returns-in-Whole-no
returns-in-Whole-no c = if_else_node c.args.test c.args.yes c.args.no c.in-Whole.test c.in-Whole-yes.yes c.in-Whole-no.no c.in-Whole.first c.in-Whole-yes.second c.in-Whole-no.height c.max.result c.max-in-Whole-no.result c.args.span _ c.in-Whole.is c.in-Whole-yes.is c.in-Whole-no.is c.max.ensures c.max-in-Whole-no.ensures c.stmt.ensures
