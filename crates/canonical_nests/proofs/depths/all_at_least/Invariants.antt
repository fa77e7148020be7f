use Rattle.std.proofs.Common.{◌≡◌, drop}
use Rattle.c_semantics.specs.Loops.Need.{all_at_least}
use Rattle.canonical_nests.proofs.depths.all_at_least.Given as goal

-- What is left decides.
abbrev pub invariant-each : goal.invariant-each
invariant-each l = all_at_least l.least (drop l.depth-index l.depths) ≡ all_at_least l.least l.depths
