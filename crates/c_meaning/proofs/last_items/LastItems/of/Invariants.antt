use Rattle.std.proofs.Common.{take}
use Rattle.c_meaning.specs.LastItems.{StandBefore}
use Rattle.c_meaning.proofs.last_items.LastItems.of.Given as goal

-- The last of the items so far.
abbrev pub invariant-each : goal.invariant-each
invariant-each l = StandBefore l.last (take l.index l.items)
