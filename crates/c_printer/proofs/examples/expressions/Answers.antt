-- By computing.
use Rattle.std.proofs.Common.{refl}
use Rattle.std.specs.Fmt.{digits}
use Rattle.c_printer.proofs.examples.expressions.Goals as goal

pub returns : goal.returns
unfolding digits
returns c = record {
  int_constant = refl;
  long_constant = refl;
  element = refl;
  left_associative = refl;
  right_operand = refl;
  looser_operands = refl;
  tighter_operands = refl;
  comparisons = refl;
  compared_comparison = refl;
  logical = refl;
  quotient = refl;
  minus_of_minus = refl;
  minus_of_plus = refl;
  plus_of_not = refl;
  not_of_not = refl;
  minus_of_a_sum = refl;
  binary_minus_of_minus = refl;
  minus_of_a_cast = refl;
  cast_of_a_cast = refl;
  cast_of_a_product = refl;
  product_in_a_cast = refl;
  choice = refl;
  choice_in_branches = refl;
  choice_in_the_test = refl;
  choice_as_operand = refl;
  choice_in_a_subscript = refl;
}
