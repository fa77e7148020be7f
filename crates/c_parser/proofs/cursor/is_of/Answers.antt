use Rattle.std.proofs.Common.{sym}
use Rattle.c_parser.proofs.ClassesTaken.{same_as, other_class}
use Rattle.c_parser.proofs.cursor.is_of.Goals as goal

pub returns-in-Some : goal.returns-in-Some
returns-in-Some c = same_as c.args.class c.in-Some.found c.same.result c.args.token.now (sym c.in-Some.ensures) c.same.ensures

pub returns-in-None : goal.returns-in-None
returns-in-None c = other_class c.args.class c.args.token.now (sym c.in-None.ensures)
