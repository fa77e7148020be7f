use Rattle.translator.proofs.Translations.{either_way}
use Rattle.translator.proofs.tree.translate_tree.Goals as goal

pub cut_tree-requires : goal.cut_tree-requires
cut_tree-requires c = (c.args.text.now, either_way c.lex.result _ _ c.lex.ensures.cut c.lex.ensures.fault)
