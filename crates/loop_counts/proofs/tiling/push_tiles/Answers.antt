-- No size is left.
use Rattle.std.proofs.Common.{arith}
use Rattle.loop_counts.proofs.Parts.{pushed_all}
use Rattle.loop_counts.proofs.Tiles.{tile_end}
use Rattle.loop_counts.proofs.tiling.push_tiles.Goals as goal

pub returns : goal.returns
returns c = pushed_all _ _ _ (tile_end c.args.grid c.args.part.now c.args.sizes.now c.each.i (omega arith)) c.each.invariant
