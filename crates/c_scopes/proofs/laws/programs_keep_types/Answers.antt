-- Function by function.
use Rattle.c_scopes.proofs.Scopes.{programs_keep_types}
use Rattle.c_scopes.proofs.laws.programs_keep_types.Goals as goal

pub returns : goal.returns
returns c = programs_keep_types
