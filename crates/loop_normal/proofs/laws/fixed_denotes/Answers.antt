-- The same children at other counters.
use Rattle.loop_normal.specs.FreshNames.{Among}
use Rattle.loop_normal.proofs.Rebase.{fixed_means}
use Rattle.loop_normal.proofs.laws.fixed_denotes.Goals as goal

pub returns : goal.returns
returns _ = λ n env bs names calm k r ls c a b inner p t out other new small h e. fixed_means n env bs (Among names) calm k r ls c a b inner p t out other new small h e
