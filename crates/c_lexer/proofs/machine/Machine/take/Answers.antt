use Rattle.std.proofs.Common.{◌∙◌, arith}
use Rattle.c_lexer.proofs.Followed.{run_more, kept_more}
use Rattle.c_lexer.proofs.machine.Machine.take.Goals as goal

pub loop-i-preserved : goal.loop-i-preserved
loop-i-preserved c = (
  run_more c.loop-i.self c.step.new.self c.args.at c.loop-i.i c.args.piece.now (omega arith) c.in_ok-step.ensures.ok ∙ c.loop-i.invariant.0,
  kept_more c.loop-i.invariant.1 c.step.ensures.kept,
)
