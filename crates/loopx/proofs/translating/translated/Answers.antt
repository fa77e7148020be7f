use Rattle.loopx.proofs.Telling.{told_of_refusal}
use Rattle.loopx.proofs.translating.translated.Goals as goal

pub returns-clause-told : goal.returns-clause-told
returns-clause-told g c =
    let read = c.in-Ok.ensures.read in
    told_of_refusal (g.S.Source.left c.args.source.now) read.0 c.refused.result c.in-Err-translate_cut.refusal read.1 read.4 (c.refused.ensures read.0 read.3) (c.in-Err-translate_cut.ensures.refused read.0 read.2)
