use Rattle.std.proofs.Common.{◌≡◌, ℕ, ◌+◌, ◌-◌, length}
use Rattle.c_meaning.specs.PlaceTables.{place_at}
use Rattle.c_meaning.proofs.place_table.PlaceTable.make_room.Given as goal

-- No place is changed.
abbrev pub invariant-each : goal.invariant-each
invariant-each l = (n : ℕ) → place_at l.self n ≡ place_at l.initial.self n

abbrev pub decreases-each : goal.decreases-each
decreases-each l = l.number + 1 - length l.self.places.items
