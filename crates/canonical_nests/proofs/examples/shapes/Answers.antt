-- By computing.
use Rattle.std.proofs.Common.{refl}
use Rattle.canonical_nests.proofs.examples.shapes.Goals as goal

pub returns : goal.returns
returns c = record {
  known = refl;
  at_the_entry = refl;
  as_many_as_wanted = refl;
  nest = refl;
  whole_tiles = refl;
  part_tile = refl;
  one_part_tile = refl;
  unknown_tiles = refl;
  tiles_of_tiles = refl;
  item_further_in = refl;
  item_of_an_item = refl;
  interchanged_further_in = refl;
  interchanged = refl;
  interchanged_empty = refl;
  interchanged_empty_first = refl;
  interchanged_unknown = refl;
  reversed = refl;
  split_parts = refl;
  split_unknown = refl;
  split_further_in = refl;
  by_three = refl;
  in_full = refl;
  fused = refl;
  fused_unknown = refl;
  loop_over_tiles = refl;
  weight_of_a_loop = refl;
  weight_of_reverse = refl;
  weight_of_copies = refl;
  weight_in_full = refl;
  weight_in_full_of_tiles = refl;
  weight_of_an_item = refl;
  one_construct = refl;
  construct_in_a_body = refl;
}
