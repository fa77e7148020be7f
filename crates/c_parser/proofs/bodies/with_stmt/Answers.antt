use Rattle.std.proofs.Common.{refl}
use Rattle.c_parser.proofs.Declaring.{grown}
use Rattle.c_parser.proofs.bodies.with_stmt.Goals as goal

pub returns : goal.returns
returns c = λ before s g p. (refl, refl, grown _ _ _ before s g p c.in_ok-stmts.ensures)
