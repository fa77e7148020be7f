-- By computing.
use Rattle.std.proofs.Common.{refl}
use Rattle.c_semantics.proofs.examples.one_loop.Goals as goal

pub returns : goal.returns
returns c = record {
  reversed_loop = refl;
  reversed_loop_without_turns = refl;
  reversed_downward_loop = refl;
  reversed_loop_with_unequal = refl;
  partial_last_tile = refl;
  split_clipped_at_the_count = refl;
  continue_ends_one_copy = refl;
  variable_from_least_to_greatest_int = refl;
  count_beyond_the_range = refl;
  earlier_variable_keeps_its_value = refl;
  cut_at_the_fourth_turn = refl;
  cut_in_a_tile = refl;
  loops_of_reverse = refl;
  loops_of_tile = refl;
  loops_of_split = refl;
  loops_of_unroll = refl;
}
