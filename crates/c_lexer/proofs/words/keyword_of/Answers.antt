use Rattle.std.proofs.Common.{◌∙◌, ap}
use Rattle.c_lexer.specs.Words.{found_in, keyword_of}
use Rattle.c_lexer.proofs.Tables.{same_keywords}
use Rattle.c_lexer.proofs.words.keyword_of.Goals as goal

pub returns : goal.returns
unfolding keyword_of
returns c = c.found_in.ensures ∙ ap (λ table. found_in table c.args.word.now) same_keywords
