-- By computing.
use Rattle.std.proofs.Common.{refl}
use Rattle.std.specs.Fmt.{digits}
use Rattle.c_printer.proofs.examples.statements.Goals as goal

pub returns : goal.returns
unfolding digits
returns c = record {
  declaration = refl;
  declaration_with_value = refl;
  assignment = refl;
  compound_assignments = refl;
  steps = refl;
  reading_and_printing = refl;
  calls = refl;
  alone = refl;
  alternative = refl;
  inner_alternative = refl;
  outer_alternative = refl;
  while_loop = refl;
  do_loop = refl;
  for_loop = refl;
  no_parts = refl;
  only_a_test = refl;
  only_an_end = refl;
  only_a_start = refl;
  empty_block = refl;
  directive_on_a_loop = refl;
  directive_on_a_directive = refl;
  directive_on_a_sequence = refl;
  directive_on_a_block = refl;
}
