-- By computing.
use Rattle.std.proofs.Common.{refl}
use Rattle.c_semantics.proofs.examples.file_variables.Goals as goal

pub returns : goal.returns
returns c = record {
  reads_only_locals = refl;
  assigns_after_the_block = refl;
  reads_of_a_construct = refl;
  assigns_of_a_construct = refl;
  reads_of_calls = refl;
  assigns_of_calls = refl;
}
