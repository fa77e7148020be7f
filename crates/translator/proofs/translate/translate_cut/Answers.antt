-- How the tokens of a text are refused, the text is refused.
use Rattle.std.proofs.Common.{subst, sym}
use Rattle.c_lexer.specs.Cut.{Cut}
use Rattle.translator.proofs.Answering.{text_refused}
use Rattle.translator.proofs.translate.translate_cut.Goals as goal

pub returns-in-Ok-clause-refused : goal.returns-in-Ok-clause-refused
returns-in-Ok-clause-refused c = λ text h.
    let cut = rw c.in-Ok.is at h in
    text_refused c.translate_tokens.result text c.as_slice.result.now (subst (Cut text) (sym c.as_slice.ensures.value) cut) c.translate_tokens.ensures.refused
