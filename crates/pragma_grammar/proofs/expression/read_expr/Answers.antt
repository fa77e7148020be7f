use Rattle.pragma_grammar.proofs.ReadExpr.{whole_answer, blamed_answer}
use Rattle.pragma_grammar.proofs.expression.read_expr.Goals as goal

pub returns-in-Whole : goal.returns-in-Whole
returns-in-Whole c = whole_answer _ _ _ _ _ _ _ c.in_ok-operand.ensures.outcome c.in_ok-operand.ensures.within c.in-Whole.is c.phrase.ensures

pub returns-in-Fault : goal.returns-in-Fault
returns-in-Fault c = blamed_answer _ _ _ _ _ c.in_ok-operand.ensures.outcome c.in_ok-operand.ensures.within c.in-Fault.is c.blamed.ensures
