-- What was read so far was handed on, and is no more than the limit.
use Rattle.std.proofs.Common.{◌≡◌, ◌-◌, ◌≤◌}
use Rattle.outside_io.proofs.ReadingSteps.{HandedSoFar}
use Rattle.outside_io.proofs.reading.read_pieces.Given as goal

abbrev pub invariant-loop-count : goal.invariant-loop-count
invariant-loop-count g l =
    HandedSoFar (g.S.Source.left l.initial.source) (g.S.Source.left l.source)
    (g.T.Taker.stands_for l.initial.taker) (g.T.Taker.stands_for l.taker) l.total
    × (g.T.Taker.count l.taker ≡ l.total) × (l.total ≤ l.limit)
    × (g.S.Source.faults l.initial.source ≤ g.S.Source.faults l.source)

abbrev pub decreases-loop-count : goal.decreases-loop-count
decreases-loop-count g l = l.limit - l.total
