-- With no outer variable.
use Rattle.loop_normal.specs.FreshNames.{Among}
use Rattle.nest_normal.proofs.Nests.{nest_means}
use Rattle.nest_normal.proofs.laws.nest_denotes.Goals as goal

pub returns : goal.returns
returns _ = λ n env names bs own front l p s r none h. nest_means n env bs (Among names) own front l p s r none h
