-- By the kind of the item.
use Rattle.c_scopes.proofs.Scopes.{items_have_types}
use Rattle.c_scopes.proofs.laws.items_have_types.Goals as goal

pub returns : goal.returns
returns c = items_have_types
