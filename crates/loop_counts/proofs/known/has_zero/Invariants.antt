use Rattle.std.proofs.Common.{◌≡◌, drop}
use Rattle.c_semantics.specs.Loops.Transformations as transformations
use Rattle.loop_counts.proofs.known.has_zero.Given as goal

-- What is left decides.
abbrev pub invariant-each : goal.invariant-each
invariant-each l = transformations.any_zero (drop l.count-index l.counts) ≡ transformations.any_zero l.counts
