use Rattle.std.proofs.Common.{◌≡◌, ◌≤◌, ◌+◌, map, drop}
use Rattle.c_tree.specs.PlacedOf.{placed_count}
use Rattle.canonical_nests.specs.LoopRules.Clauses.{fills}
use Rattle.loop_clauses.proofs.arguments.fills.Given as goal

-- Those that were seen and those that are left are all.
abbrev pub invariant-each : goal.invariant-each
invariant-each l = (l.seen + fills (map placed_count (drop l.count-index l.counts)) ≡ fills (map placed_count l.counts)) × (l.seen ≤ l.count-index)
