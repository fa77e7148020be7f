use Rattle.std.proofs.Common.{◌≡◌, ◌++◌, drop}
use Rattle.std.specs.Prelude.{flat_map}
use Rattle.loop_counts.specs.Moves.{move_of}
use Rattle.loop_counts.proofs.moves.all_places.Given as goal

-- What was made and what is left are all.
abbrev pub invariant-each : goal.invariant-each
invariant-each l = l.all.items ++ flat_map (move_of l.to) (drop l.position-index l.positions) ≡ flat_map (move_of l.to) l.positions
