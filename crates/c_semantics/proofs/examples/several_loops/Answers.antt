-- By computing.
use Rattle.std.proofs.Common.{refl}
use Rattle.c_semantics.proofs.examples.several_loops.Goals as goal

pub returns : goal.returns
returns c = record {
  tile_of_two_loops = refl;
  permutation_of_three_loops = refl;
  interchange_of_an_empty_loop = refl;
  tile_round_an_empty_loop = refl;
  tile_of_reverse = refl;
  reverse_of_tile = refl;
  fuse_of_the_first_two = refl;
  inner_bounds_are_taken_before_an_empty_loop = refl;
  fuse_of_split = refl;
  interchange_of_grid_and_tile_loop = refl;
  source_order_of_fuse = refl;
  order_of_fuse = refl;
  tile_of_a_matrix_product = refl;
  loops_of_tile_of_two = refl;
  loops_of_permutation = refl;
  loops_of_tile_of_reverse = refl;
  loops_of_reverse_of_tile = refl;
  loops_of_fuse = refl;
  loops_of_fuse_of_split = refl;
  loops_of_interchange_of_tile = refl;
}
