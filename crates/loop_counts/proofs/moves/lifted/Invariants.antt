use Rattle.std.proofs.Common.{◌≡◌, ◌+◌, ◌++◌, map, drop}
use Rattle.loop_counts.proofs.moves.lifted.Given as goal

-- What was made and what is left are all.
abbrev pub invariant-each : goal.invariant-each
invariant-each l = l.all.items ++ map (λ q. l.round + q) (drop l.position-index l.positions) ≡ map (λ q. l.round + q) l.positions
