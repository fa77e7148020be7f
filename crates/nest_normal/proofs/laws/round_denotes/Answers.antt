-- In each turn the nest stands within one loop more.
use Rattle.nest_normal.proofs.Nests.{round_means}
use Rattle.nest_normal.proofs.laws.round_denotes.Goals as goal

pub returns : goal.returns
returns _ = λ n env names bs c T m own xs front l source new unseen s r typed h. round_means n env names bs c T m source xs s typed own front l new unseen r h
