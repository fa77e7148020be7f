use Rattle.std.proofs.Common.{◌≡◌, ◌-◌, drop}
use Rattle.c_semantics.specs.Loops.Transformations as transformations
use Rattle.loop_counts.proofs.splitting.left_over.Given as goal

-- What is left over is left by those that are left.
abbrev pub invariant-each : goal.invariant-each
invariant-each l = l.left - transformations.known_counts (drop l.count-index l.counts) ≡ l.turns - transformations.known_counts l.counts
