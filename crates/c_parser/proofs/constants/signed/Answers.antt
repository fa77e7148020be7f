use Rattle.c_parser.proofs.ConstantsTaken.{signed_taken}
use Rattle.c_parser.proofs.constants.signed.Goals as goal

pub returns : goal.returns
returns c = signed_taken c.minus-negative.result c.args.cursor.now c.minus-negative.new.cursor c.number.new.cursor c.number.result c.minus-negative.ensures c.number.ensures
