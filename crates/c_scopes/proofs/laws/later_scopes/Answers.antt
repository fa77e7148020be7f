-- A new name is none of the scope's.
use Rattle.c_scopes.proofs.Scopes.{later_scopes}
use Rattle.c_scopes.proofs.laws.later_scopes.Goals as goal

pub returns : goal.returns
returns c = later_scopes
