-- By computing.
use Rattle.std.proofs.Common.{refl}
use Rattle.canonical_nests.proofs.examples.one_directive.Goals as goal

pub returns : goal.returns
returns c = record {
  reversed = refl;
  no_loop = refl;
  step_of_none = refl;
  assigned_in_the_body = refl;
  too_shallow = refl;
  deep_enough = refl;
  triangular = refl;
  rectangular = refl;
  only_the_outer_loop = refl;
  break_out = refl;
  clauses_first = refl;
  no_sizes = refl;
  full_and_partial = refl;
  sizes_of_reverse = refl;
  number_twice = refl;
  factor_of_none = refl;
  fully_unrolled = refl;
  tiles_of_ten = refl;
  tiles_of_eight = refl;
  no_fill = refl;
  one_fill = refl;
  range_too_long = refl;
  range_of_both = refl;
  member_no_loop = refl;
  several_loops = refl;
  more_items_than_loops = refl;
  no_modifier = refl;
  no_such_loop = refl;
}
