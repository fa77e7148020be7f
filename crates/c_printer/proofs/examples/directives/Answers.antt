-- By computing.
use Rattle.std.proofs.Common.{refl}
use Rattle.std.specs.Fmt.{digits}
use Rattle.c_printer.proofs.examples.directives.Goals as goal

pub returns : goal.returns
unfolding digits
returns c = record {
  no_clause = refl;
  sizes_and_apply = refl;
  no_indices = refl;
  no_modifier = refl;
  permutation_of_three = refl;
  counts_with_fill = refl;
  range_of_a_sequence = refl;
  no_factor = refl;
}
