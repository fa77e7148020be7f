use Rattle.std.proofs.Common.{refl}
use Rattle.c_parser.proofs.HeadsTaken.{head_made}
use Rattle.c_parser.proofs.heads.head_node.Goals as goal

pub returns-in-Whole-step : goal.returns-in-Whole-step
returns-in-Whole-step c = head_made c.args.init c.args.step c.args.test c.in-Whole.init c.in-Whole-step.step c.in-Whole.init c.in-Whole-step.step c.in-Whole-test.test c.in-Whole.first c.in-Whole-test.second c.in-Whole-step.height c.max.result c.max-in-Whole-step.result c.args.init_at c.args.test_at c.args.step_at c.in-Whole.is c.in-Whole-test.is c.in-Whole-step.is refl refl c.max.ensures c.max-in-Whole-step.ensures
