use Rattle.translator.proofs.Translations.{either_way}
use Rattle.translator.proofs.translate.translate.Goals as goal

pub translate_cut-requires : goal.translate_cut-requires
translate_cut-requires c = (c.args.text.now, either_way c.lex.result _ _ c.lex.ensures.cut c.lex.ensures.fault)
