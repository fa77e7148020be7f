-- The statements of the parts do what the trees do, and the block drops what they declare.
use Rattle.loop_normal.specs.FreshNames.{Among}
use Rattle.loop_normal.proofs.Blocks.{gen_runs}
use Rattle.loop_normal.proofs.laws.blocks_run.Goals as goal

pub returns : goal.returns
returns c = λ n env bs names calm g s r h. gen_runs n env bs (Among names) calm g s r h
