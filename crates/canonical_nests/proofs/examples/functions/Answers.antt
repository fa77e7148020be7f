-- By computing.
use Rattle.std.proofs.Common.{refl}
use Rattle.canonical_nests.proofs.examples.functions.Goals as goal

pub returns : goal.returns
returns c = record {
  called_one_reads_the_variable = refl;
  called_one_assigns_the_variable = refl;
  called_one_assigns_the_bound = refl;
  called_one_reads_the_bound = refl;
  reads_another_variable = refl;
  through_a_call = refl;
  local_variable = refl;
  bound_assigned = refl;
  hidden_bound_assigned = refl;
  own_variable = refl;
  construct_in_function = refl;
  parameter_assigned = refl;
}
