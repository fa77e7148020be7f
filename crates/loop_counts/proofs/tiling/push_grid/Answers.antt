-- No size is left.
use Rattle.std.proofs.Common.{arith}
use Rattle.loop_counts.proofs.Parts.{pushed_all}
use Rattle.loop_counts.proofs.Tiles.{grid_end}
use Rattle.loop_counts.proofs.tiling.push_grid.Goals as goal

pub returns : goal.returns
returns c = pushed_all _ _ _ (grid_end c.args.part.now c.args.sizes.now c.each.i (omega arith)) c.each.invariant
