use Rattle.std.proofs.Common.{◌≡◌, ◌++◌, map, drop}
use Rattle.canonical_nests.specs.declared.nest.CountKind.TheVariants.{Known}
use Rattle.c_semantics.specs.Loops.Transformations as transformations
use Rattle.c_semantics.specs.Structure.Parts as parts
use Rattle.loop_counts.proofs.splitting.known_parts.Given as goal

-- What was made and what is left are all.
abbrev pub invariant-each : goal.invariant-each
invariant-each l = l.all.items ++ map Known (parts.clipped l.left (map (transformations.filled l.fill) (drop l.count-index l.counts))) ≡ map Known (parts.clipped l.turns (map (transformations.filled l.fill) l.counts))
