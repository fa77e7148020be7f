-- The printed form of the translated tree is the translation.
use Rattle.std.proofs.Common.{subst, sym}
use Rattle.c_tree.specs.BareOf.{bare_program}
use Rattle.translator.specs.Answers.{IsTranslatedTree}
use Rattle.translator.proofs.Translations.{translation}
use Rattle.translator.proofs.translate.translate_tokens.Goals as goal

pub returns-clause-written : goal.returns-clause-written
returns-clause-written c = λ text cut.
    let tree = subst (λ p. IsTranslatedTree text (bare_program p)) (sym c.program.ensures.program) (c.in_ok-tree.ensures.tree text cut) in
    translation text (bare_program c.program.result.now) c.in_ok-print.field-0.items c.program.ensures.checked.well_formed tree c.in_ok-print.ensures
