use Rattle.c_parser.specs.Cursor.{class_of}
use Rattle.c_parser.proofs.ClassesTaken.{may_found}
use Rattle.c_parser.proofs.cursor.Cursor.may.Goals as goal

pub returns-clause-taken : goal.returns-clause-taken
returns-clause-taken c = may_found (class_of c.args.class) c.args.self.now c.found.new.self c.found.result c.found.ensures.ended c.found.ensures.found
