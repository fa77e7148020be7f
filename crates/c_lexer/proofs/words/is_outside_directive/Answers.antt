use Rattle.std.proofs.Common.{◌∙◌, ap}
use Rattle.c_lexer.specs.Words.{is_among, is_outside_directive}
use Rattle.c_lexer.proofs.Tables.{same_directive}
use Rattle.c_lexer.proofs.words.is_outside_directive.Goals as goal

pub returns : goal.returns
unfolding is_outside_directive
returns c = c.is_among.ensures ∙ ap (λ words. is_among words c.args.word.now) same_directive
