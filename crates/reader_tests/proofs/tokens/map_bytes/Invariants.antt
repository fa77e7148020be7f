use Rattle.std.proofs.Common.{◌≡◌}
use Rattle.reader_tests.proofs.tokens.map_bytes.Given as goal

abbrev pub invariant-loop-i : goal.invariant-loop-i
invariant-loop-i l = l.map.count ≡ l.i
