-- Each transformation, and then its items.
use Rattle.nest_counts.proofs.Deeper.{deeper_bodies_serve}
use Rattle.nest_counts.proofs.laws.deeper_bodies_serve.Goals as goal

pub returns : goal.returns
returns c = deeper_bodies_serve
