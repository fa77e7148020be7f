-- The same children at other counters.
use Rattle.loop_normal.specs.FreshNames.{Among}
use Rattle.loop_normal.proofs.Rebase.{rebase_means}
use Rattle.loop_normal.proofs.laws.rebased_denotes.Goals as goal

pub returns : goal.returns
returns _ = λ n env bs names calm x y r ls c a b inner p t out other new h. rebase_means n env bs (Among names) calm x y r ls c a b inner p t out other new h
