-- What the streams hold after a failed write, a trap or a cut.
use Rattle.loopx.specs.Words.{run}
use Rattle.loopx.proofs.Telling.{part_told, part_run, whole_run, nothing_told, gains_nothing, trap_told, trap_part, cut_part, memory_part}
use Rattle.c_tree.specs.BareOf.{bare_program}
use Rattle.loopx.proofs.running.run_source.Goals as goal

pub returns-in-Err-clause-told_part : goal.returns-in-Err-clause-told_part
returns-in-Err-clause-told_part g c = λ input are failed. part_told (run c.args.bound input) (g.S.Source.left c.args.source.now) _ _ c.in-Err.told c.in-Err.ensures.of_source c.in-Err.ensures.told (c.tell.ensures.failed failed).1

pub returns-in-Ok-Trapped-clause-part : goal.returns-in-Ok-Trapped-clause-part
returns-in-Ok-Trapped-clause-part g c = λ input are failed. whole_run c.args.bound input (g.S.Source.left c.args.source.now) _ _ (bare_program c.in-Ok.checked) c.in-Ok.ensures.tree (c.in-Ok-Trapped.ensures.lines input are)

pub returns-in-Ok-Trapped-clause-told : goal.returns-in-Ok-Trapped-clause-told
returns-in-Ok-Trapped-clause-told g c = λ input are fine. trap_told c.args.bound input (g.S.Source.left c.args.source.now) _ _ (bare_program c.in-Ok.checked) c.in-Ok-Trapped.trap c.in-Ok-Trapped.field-0 c.tell-in-Ok-Trapped.result c.in-Ok.ensures.tree c.in-Ok-Trapped.field-0-is (c.in-Ok-Trapped.ensures.end input are) (c.tell-in-Ok-Trapped.ensures.told fine).0 (c.tell-in-Ok-Trapped.ensures.told fine).1

pub returns-in-Ok-Trapped-clause-told_part : goal.returns-in-Ok-Trapped-clause-told_part
returns-in-Ok-Trapped-clause-told_part g c = λ input are failed. trap_part c.args.bound input (g.S.Source.left c.args.source.now) _ _ (bare_program c.in-Ok.checked) c.in-Ok-Trapped.trap c.in-Ok-Trapped.field-0 c.in-Ok.ensures.tree c.in-Ok-Trapped.field-0-is (c.in-Ok-Trapped.ensures.end input are) (c.tell-in-Ok-Trapped.ensures.failed failed).1

pub returns-in-Ok-Cut-clause-part : goal.returns-in-Ok-Cut-clause-part
returns-in-Ok-Cut-clause-part g c = λ input are failed. whole_run c.args.bound input (g.S.Source.left c.args.source.now) _ _ (bare_program c.in-Ok.checked) c.in-Ok.ensures.tree (c.in-Ok-Cut.ensures.lines input are)

pub returns-in-Ok-Cut-clause-told_part : goal.returns-in-Ok-Cut-clause-told_part
returns-in-Ok-Cut-clause-told_part g c = λ input are failed. cut_part c.args.bound input (g.S.Source.left c.args.source.now) _ _ (c.tell-in-Ok-Cut.ensures.failed failed).1

pub returns-in-Err-WriteFault-clause-part : goal.returns-in-Err-WriteFault-clause-part
returns-in-Err-WriteFault-clause-part g c = λ input are failed. part_run c.args.bound input (g.S.Source.left c.args.source.now) _ _ (bare_program c.in-Ok.checked) c.in-Ok.ensures.tree (c.in-Err-WriteFault.ensures.part input are)

pub returns-in-Err-WriteFault-clause-told_part : goal.returns-in-Err-WriteFault-clause-told_part
returns-in-Err-WriteFault-clause-told_part g c = λ input are failed. nothing_told (run c.args.bound input) (g.S.Source.left c.args.source.now) _ (gains_nothing (g.E.Sink.held c.args.diag.now))

pub returns-clause-part : goal.returns-clause-part
returns-clause-part g c = λ input are failed. part_run c.args.bound input (g.S.Source.left c.args.source.now) _ _ (bare_program c.in-Ok.checked) c.in-Ok.ensures.tree (c.in-Err-Memory.ensures.part input are)

pub returns-clause-told_part : goal.returns-clause-told_part
returns-clause-told_part g c = λ input are failed. memory_part (run c.args.bound input) (g.S.Source.left c.args.source.now) _ _ (c.tell-in-Err-Memory.ensures.failed failed).1
