use Rattle.c_parser.specs.Cursor.{class_of}
use Rattle.c_parser.proofs.ClassesTaken.{past_first}
use Rattle.c_parser.proofs.cursor.Cursor.found.Goals as goal

pub advance-requires : goal.advance-requires
advance-requires c = past_first (class_of c.args.class) c.first-token.result.now c.args.self.now c.first-token.result.now.span c.first-token.ensures.ended c.first-token.ensures.first c.if-is_of.ensures
