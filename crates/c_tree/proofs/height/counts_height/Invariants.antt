use Rattle.std.proofs.Common.{◌≡◌, max, drop, map}
use Rattle.c_tree.specs.BareOf.{bare_count}
use Rattle.c_tree.specs.Height.{counts_height, capped}
use Rattle.c_tree.proofs.height.counts_height.Given as goal

-- What was seen and what is left have the height of all.
abbrev pub invariant-each : goal.invariant-each
invariant-each l = max l.highest (capped (counts_height (map bare_count (drop l.count-index l.counts)))) ≡ capped (counts_height (map bare_count l.counts))
