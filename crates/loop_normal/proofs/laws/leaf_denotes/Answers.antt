-- By the entry: the trap of a bound or of the count, or the loop.
use Rattle.loop_normal.specs.FreshNames.{Among}
use Rattle.loop_normal.proofs.Leaf.{leaf_means}
use Rattle.loop_normal.proofs.Values.{worth}
use Rattle.loop_normal.proofs.laws.leaf_denotes.Goals as goal

pub returns : goal.returns
returns _ = λ n env names bs c T m as' b fits distinct out var_apart lb_apart ub_apart apart grows bodies p s type_.
    leaf_means n env (Among names) bs c T m as' (worth env.defines c T m fits) distinct b bodies apart grows var_apart lb_apart ub_apart out p s type_
