use Rattle.std.proofs.Common.{◌≡◌, ◌++◌, map, drop}
use Rattle.loop_counts.proofs.splitting.same_parts.Given as goal

-- What was made and what is left are all.
abbrev pub invariant-each : goal.invariant-each
invariant-each l = l.all.items ++ map (λ _. l.kind) (drop l._count-index l.counts) ≡ map (λ _. l.kind) l.counts
