-- The fields of the head.
use Rattle.loop_normal.proofs.Parts.{head_whole}
use Rattle.loop_normal.proofs.statements.whole_head.Goals as goal

pub returns : goal.returns
returns c = head_whole c.args.init 0 c.args.test 0 c.args.step 0
