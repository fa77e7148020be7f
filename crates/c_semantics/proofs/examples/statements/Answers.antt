-- By computing.
use Rattle.std.proofs.Common.{refl}
use Rattle.c_semantics.proofs.examples.statements.Goals as goal

pub returns : goal.returns
returns c = record {
  turns_of_all_for_loops = refl;
  unset_variable = refl;
  variable_in_its_own_initial_value = refl;
  variable_in_its_own_head = refl;
  sum_of_ints = refl;
  sum_in_the_common_type = refl;
  type_of_the_branch_not_taken = refl;
  narrow_initial_value = refl;
  division_toward_zero = refl;
  remainder_by_zero = refl;
  remainder_of_the_least_int = refl;
  subscript_past_the_end = refl;
  input_ends = refl;
  input_does_not_fit = refl;
  file_variables_at_the_end = refl;
  loops_and_leaves = refl;
  endless_loop = refl;
}
