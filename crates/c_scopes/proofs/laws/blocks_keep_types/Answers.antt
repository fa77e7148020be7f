-- A block's frame is cut to those that were there before.
use Rattle.c_scopes.proofs.Scopes.{blocks_keep_types}
use Rattle.c_scopes.proofs.laws.blocks_keep_types.Goals as goal

pub returns : goal.returns
returns c = blocks_keep_types
