use Rattle.std.proofs.Common.{◌≡◌, max, drop}
use Rattle.c_semantics.specs.Structure.Parts as parts
use Rattle.loop_counts.proofs.known.greatest.Given as goal

-- The greater of what was seen and of what is left is the greatest.
abbrev pub invariant-each : goal.invariant-each
invariant-each l = max l.most (parts.greatest (drop l.count-index l.counts)) ≡ parts.greatest l.counts
