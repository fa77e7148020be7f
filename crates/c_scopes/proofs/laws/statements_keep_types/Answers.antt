-- By the kind of the statement.
use Rattle.c_scopes.proofs.Scopes.{statements_keep_types}
use Rattle.c_scopes.proofs.laws.statements_keep_types.Goals as goal

pub returns : goal.returns
returns c = statements_keep_types
