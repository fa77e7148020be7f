use Rattle.c_parser.proofs.UnitsTaken.{past_zero, zero_taken, zero_untaken}
use Rattle.c_parser.proofs.units.zero.Goals as goal

pub advance-requires : goal.advance-requires
advance-requires c = past_zero c.first.result.now c.args.cursor.now c.is_zero.result c.first.ensures.ended c.first.ensures.first c.is_zero.ensures c.if-is_zero.true

pub returns-then-is_zero : goal.returns-then-is_zero
returns-then-is_zero c = zero_taken c.first.result.now c.args.cursor.now c.advance.new.self c.is_zero.result tt c.first.ensures.first c.advance.ensures c.is_zero.ensures c.if-is_zero.true

pub returns-else-is_zero : goal.returns-else-is_zero
returns-else-is_zero c = zero_untaken c.first.result.now c.args.cursor.now c.args.cursor.now c.is_zero.result c.blamed.result c.first.ensures.first c.is_zero.ensures c.if-is_zero.false c.blamed.ensures
