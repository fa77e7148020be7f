use Rattle.std.proofs.Common.{arith}
use Rattle.c_lexer.proofs.Digits.{no_digit}
use Rattle.c_lexer.proofs.number.digits_value.Goals as goal

pub returns : goal.returns
returns c = no_digit c.args.radix c.loop-digit.value c.loop-digit.digit-index c.args.digits.now _ (omega arith) c.loop-digit.invariant.0 c.loop-digit.invariant.1
