-- By computing.
use Rattle.std.proofs.Common.{refl}
use Rattle.c_semantics.proofs.examples.apply_clause.Goals as goal

pub returns : goal.returns
returns c = record {
  items_on_grid_and_tile_loops = refl;
  tile_loops_unrolled = refl;
  tile_loops_unrolled_by_two = refl;
  tile_loops_split = refl;
  item_with_an_item = refl;
  item_on_the_second_part = refl;
  loops_of_items = refl;
  loops_of_unrolled_tiles = refl;
  loops_of_tiles_unrolled_by_two = refl;
  loops_of_split_tiles = refl;
  loops_of_the_second_part = refl;
}
