-- The list below the loop runs the body after its private copies.
use Rattle.std.proofs.Common.{refl}
use Rattle.nest_normal.proofs.Nests.{innermost_means}
use Rattle.nest_normal.proofs.laws.innermost_denotes.Goals as goal

pub returns-clause-nest : goal.returns-clause-nest
returns-clause-nest _ = λ m h as'. refl

pub returns-clause-denotes : goal.returns-clause-denotes
returns-clause-denotes _ = λ n env names bs c T m as' b xs source apart at s typed. innermost_means n env names bs c T m source xs s typed as' apart b at
