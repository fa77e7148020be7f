use Rattle.std.proofs.Common.{◌≡◌, ◌++◌, map, drop}
use Rattle.canonical_nests.specs.Kinds as kinds
use Rattle.loop_counts.specs.Moves.{move_of}
use Rattle.loop_counts.proofs.moves.moved_all.Given as goal

-- What was made and what is left are all.
abbrev pub invariant-each : goal.invariant-each
invariant-each l = l.all.items ++ map (kinds.moved (move_of l.to)) (drop l.kind-index l.part) ≡ map (kinds.moved (move_of l.to)) l.part
