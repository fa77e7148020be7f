-- By computing.
use Rattle.std.proofs.Common.{refl}
use Rattle.canonical_nests.proofs.examples.stacks.Goals as goal

pub returns : goal.returns
returns c = record {
  interchanged_tiles = refl;
  interchanged_part_tiles = refl;
  interchanged_twice = refl;
  no_loop_left = refl;
  one_loop_left = refl;
  inner_one_first = refl;
  several_parts = refl;
  fused_parts = refl;
  full_grid = refl;
  second_part_interchanged = refl;
  tile_loop_interchanged = refl;
  below_no_loop = refl;
  part_tile_interchanged = refl;
  grid_and_tile_interchanged = refl;
  whole_tiles_interchanged = refl;
  tile_of_a_tile = refl;
  part_tile_of_a_tile = refl;
  item_of_reverse = refl;
  gone_by_an_item = refl;
  construct_inside = refl;
  broken_inside = refl;
  eighteen_lines = refl;
  nineteen_lines = refl;
  by_five_thousand = refl;
  by_twenty_thousand = refl;
  by_a_thousand_twice = refl;
  full_of_many = refl;
}
