use Rattle.c_parser.proofs.ClassesTaken.{placed_first}
use Rattle.c_parser.proofs.cursor.Cursor.place.Goals as goal

pub returns : goal.returns
returns c = placed_first c.first.result.now c.args.self.now c.first.ensures.first
