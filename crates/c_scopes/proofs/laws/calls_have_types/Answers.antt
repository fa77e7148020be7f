-- Argument by argument.
use Rattle.c_scopes.proofs.Scopes.{calls_have_types}
use Rattle.c_scopes.proofs.laws.calls_have_types.Goals as goal

pub returns : goal.returns
returns c = calls_have_types
