-- The same children, the last one first.
use Rattle.loop_normal.specs.FreshNames.{Among}
use Rattle.permute_reverse.proofs.Reverse.{reverse_means}
use Rattle.permute_reverse.proofs.laws.reversed_denotes.Goals as goal

pub returns : goal.returns
returns _ = λ n env bs names calm r ls c b inner p t out new apart other h. reverse_means n env bs (Among names) calm r out ls c b inner p t new apart other h
