use Rattle.std.proofs.Common.{◌≡◌, ◌+◌, drop}
use Rattle.c_semantics.specs.Loops.Transformations as transformations
use Rattle.loop_counts.proofs.positions.place_among.Given as goal

-- None so far is the number.
abbrev pub invariant-each : goal.invariant-each
invariant-each l = l.i + transformations.place_of l.number (drop l.i l.numbers) ≡ transformations.place_of l.number l.numbers
