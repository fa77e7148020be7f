-- What the diagnostic stream holds after a failed write.
use Rattle.loopx.specs.Words.{translate}
use Rattle.loopx.proofs.Telling.{part_told, nothing_told, gains_nothing}
use Rattle.loopx.proofs.translating.translate_source.Goals as goal

pub returns-in-Ok-clause-told_part : goal.returns-in-Ok-clause-told_part
returns-in-Ok-clause-told_part g c failed = nothing_told translate (g.S.Source.left c.args.source.now) _ (gains_nothing (g.E.Sink.held c.args.diag.now))

pub returns-clause-told_part : goal.returns-clause-told_part
returns-clause-told_part g c failed = part_told translate (g.S.Source.left c.args.source.now) _ _ c.in-Err.told c.in-Err.ensures.of_source c.in-Err.ensures.told (c.tell.ensures.failed failed).1
