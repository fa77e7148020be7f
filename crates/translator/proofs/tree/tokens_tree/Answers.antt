-- What stands for the program of the tokens is so for the text.
use Rattle.c_tree.specs.BareOf.{bare_program}
use Rattle.c_tree.specs.PlacedOf.{placed_program}
use Rattle.translator.proofs.Answering.{tree_ok, accepted_ok, refused_ok}
use Rattle.translator.proofs.tree.tokens_tree.Goals as goal

pub returns-clause-tree : goal.returns-clause-tree
returns-clause-tree c = λ text cut. tree_ok bare_program c.carry_out.result text c.args.tokens.now (placed_program c.in_ok-admitted.admitted) cut c.in_ok-admitted.ensures.spelled c.carry_out.ensures.stands

pub returns-clause-accepted : goal.returns-clause-accepted
returns-clause-accepted c = λ text cut. accepted_ok bare_program c.carry_out.result text c.args.tokens.now (placed_program c.in_ok-admitted.admitted) cut c.in_ok-admitted.ensures.spelled c.carry_out.ensures.stands

pub returns-clause-refused : goal.returns-clause-refused
returns-clause-refused c = refused_ok c.carry_out.result c.args.tokens.now (placed_program c.in_ok-admitted.admitted) c.in_ok-admitted.ensures.spelled c.carry_out.ensures.refused
