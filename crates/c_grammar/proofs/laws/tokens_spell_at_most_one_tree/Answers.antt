-- The law.
use Rattle.c_grammar.proofs.OneProgram.{one_program}
use Rattle.c_grammar.proofs.laws.tokens_spell_at_most_one_tree.Goals as goal

pub returns : goal.returns
returns c = λ tokens p q h k. one_program p q tokens h k
