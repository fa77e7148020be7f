use Rattle.c_parser.specs.Cursor.{class_of}
use Rattle.c_parser.proofs.ClassesTaken.{found_some, found_none}
use Rattle.c_parser.proofs.cursor.Cursor.take.Goals as goal

pub returns-in-Some : goal.returns-in-Some
returns-in-Some c = found_some (class_of c.args.class) c.args.self.now c.found.new.self c.in-Some.span c.in-Some.ensures.found

pub returns-in-None : goal.returns-in-None
returns-in-None c = found_none (class_of c.args.class) c.args.self.now c.found.new.self c.blamed.result c.in-None.ensures.ended c.in-None.ensures.found c.blamed.ensures
