-- By the rules of heads.
use Rattle.carried_names.proofs.Rules.{admitted_breaks_none}
use Rattle.carried_names.proofs.laws.admitted_carried_out_breaks_none.Goals as goal

pub returns : goal.returns
returns _ = admitted_breaks_none
