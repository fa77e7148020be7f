-- By computing.
use Rattle.std.proofs.Common.{refl}
use Rattle.c_semantics.proofs.examples.depths.Goals as goal

pub returns : goal.returns
returns c = record {
  need_of_tile = refl;
  need_of_tile_below_another = refl;
  need_of_an_item = refl;
  need_of_a_loop_that_is_gone = refl;
  need_of_interchange = refl;
  need_of_split = refl;
  need_of_fuse = refl;
  need_of_two_loops_of_fuse = refl;
  depth_of_tile = refl;
  depths_of_split = refl;
  depth_of_fuse = refl;
  too_shallow = refl;
}
