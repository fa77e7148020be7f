-- The laws.
use Rattle.c_grammar.proofs.OneAnswer.{one_blame, one_deep, tree_or_blame, tree_or_deep, deep_or_blame}
use Rattle.c_grammar.proofs.laws.tokens_have_one_answer.Goals as goal

pub returns-clause-blame : goal.returns-clause-blame
returns-clause-blame c = λ tokens k l m n b d. one_blame tokens k l m n b d

pub returns-clause-depth : goal.returns-clause-depth
returns-clause-depth c = λ tokens m n h k. one_deep tokens m n h k

pub returns-clause-tree_or_blame : goal.returns-clause-tree_or_blame
returns-clause-tree_or_blame c = λ tokens p k m h b. tree_or_blame tokens p k m h b

pub returns-clause-tree_or_depth : goal.returns-clause-tree_or_depth
returns-clause-tree_or_depth c = λ tokens p m h d. tree_or_deep tokens p m h d

pub returns-clause-depth_or_blame : goal.returns-clause-depth_or_blame
returns-clause-depth_or_blame c = λ tokens k m n d b. deep_or_blame tokens k m n d b
