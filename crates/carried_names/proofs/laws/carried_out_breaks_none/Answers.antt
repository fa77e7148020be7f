-- Item by item.
use Rattle.carried_names.proofs.Items.{breaks_none}
use Rattle.carried_names.proofs.laws.carried_out_breaks_none.Goals as goal

pub returns : goal.returns
returns _ = breaks_none
