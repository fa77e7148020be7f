-- A head at its fields.
use Rattle.c_tree.proofs.Heads.{placed_head_out}

pub ruleset heads = (placed_head_out)
