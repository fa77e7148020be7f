-- By computing.
use Rattle.std.proofs.Common.{refl}
use Rattle.std.specs.Fmt.{digits}
use Rattle.c_printer.proofs.examples.programs.Goals as goal

pub returns : goal.returns
unfolding digits
returns c = record {
  define_a_number = refl;
  define_a_negative = refl;
  define_a_long = refl;
  print_made_known = refl;
  input_made_known = refl;
  array = refl;
  variable_with_value = refl;
  function_of_two = refl;
  function_of_none = refl;
  empty_main = refl;
  whole = refl;
}
