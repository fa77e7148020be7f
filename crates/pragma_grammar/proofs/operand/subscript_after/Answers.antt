use Rattle.pragma_grammar.proofs.Turns.{one_more_kept}
use Rattle.pragma_grammar.proofs.operand.subscript_after.Goals as goal

pub returns-in_ok-push-in-Tree : goal.returns-in_ok-push-in-Tree
returns-in_ok-push-in-Tree c = one_more_kept _ _ _ _ _ _ _ c.in-Tree.is c.in_ok-push-in-Tree.ensures.ok c.greater.ensures
