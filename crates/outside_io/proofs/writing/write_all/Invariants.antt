-- So far a first part of the piece was taken, and the rest is what follows it.
use Rattle.std.proofs.Common.{◌≡◌, ℕ, ◌≤◌, List, ◌++◌, length}
use Rattle.outside_io.specs.Bytes.{Gains}
use Rattle.outside_io.proofs.writing.write_all.Given as goal

abbrev pub invariant-loop-rest : goal.invariant-loop-rest
invariant-loop-rest g l =
    (written : List ℕ) × (l.piece ≡ written ++ l.rest) × Gains (g.K.Sink.held l.initial.sink) (g.K.Sink.held l.sink) written
    × (g.K.Sink.faults l.initial.sink ≤ g.K.Sink.faults l.sink)

abbrev pub decreases-loop-rest : goal.decreases-loop-rest
decreases-loop-rest g l = length l.rest
