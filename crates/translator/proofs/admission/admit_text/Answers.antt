-- What the tokens of a text spell, and how they are refused, is so for the text.
use Rattle.std.proofs.Common.{subst, sym}
use Rattle.c_tree.specs.PlacedOf.{placed_program}
use Rattle.c_lexer.specs.Cut.{Cut}
use Rattle.translator.proofs.Answering.{text_ok, text_refused}
use Rattle.translator.proofs.admission.admit_text.Goals as goal

pub admit_tokens-requires : goal.admit_tokens-requires
admit_tokens-requires c = (c.args.text.now, subst (Cut c.args.text.now) (sym c.as_slice.ensures.value) c.in-Ok.ensures.cut)

pub returns-in-Ok-clause-admitted : goal.returns-in-Ok-clause-admitted
returns-in-Ok-clause-admitted c =
    text_ok placed_program c.admit_tokens.result c.args.text.now c.as_slice.result.now
    (subst (Cut c.args.text.now) (sym c.as_slice.ensures.value) c.in-Ok.ensures.cut) c.admit_tokens.ensures.spelled

pub returns-in-Ok-clause-refused : goal.returns-in-Ok-clause-refused
returns-in-Ok-clause-refused c =
    text_refused c.admit_tokens.result c.args.text.now c.as_slice.result.now
    (subst (Cut c.args.text.now) (sym c.as_slice.ensures.value) c.in-Ok.ensures.cut) c.admit_tokens.ensures.refused
