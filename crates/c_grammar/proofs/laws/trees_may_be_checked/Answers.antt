use Rattle.std.proofs.Common.{◌≤◌, subst, sym}
use Rattle.c_tree.specs.Forget.{forget_program}
use Rattle.c_tree.specs.Height.{program_height}
use Rattle.c_grammar.proofs.WellFormed.{texts_are_well_formed}
use Rattle.c_grammar.proofs.Shallow.{shallow_items}
use Rattle.c_grammar.proofs.laws.trees_may_be_checked.Goals as goal

pub returns : goal.returns
returns c text tokens program cut tree = (
  texts_are_well_formed text tokens program cut (record { items = tree.0; spelled = tree.1; same = sym tree.2 }),
  subst (λ p. program_height (forget_program p) ≤ 256) tree.2 (shallow_items tree.0 tree.3),
)
