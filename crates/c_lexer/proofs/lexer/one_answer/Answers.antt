use Rattle.c_lexer.proofs.Standing.{cut_once, fault_once, not_both, some_answer}
use Rattle.c_lexer.proofs.lexer.one_answer.Goals as goal

pub returns : goal.returns
returns c = record { cut = cut_once; fault = fault_once; not_both = not_both; some = some_answer }
