-- By computing.
use Rattle.std.proofs.Common.{refl}
use Rattle.c_semantics.proofs.examples.functions.Goals as goal

pub returns : goal.returns
returns c = record {
  parameters_of_a_call = refl;
  argument_does_not_fit = refl;
  calls_in_a_construct = refl;
  call_does_not_see_the_private_copy = refl;
  construct_in_function_and_main = refl;
  loops_of_each_body = refl;
}
