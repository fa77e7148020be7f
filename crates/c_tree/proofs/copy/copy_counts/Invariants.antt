use Rattle.std.proofs.Common.{◌≡◌, take}
use Rattle.c_tree.proofs.copy.copy_counts.Given as goal

-- The copy holds what was passed.
abbrev pub invariant-each : goal.invariant-each
invariant-each l = l.copy ≡ take l.count-index l.counts
