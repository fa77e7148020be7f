-- The state of a run as 64 bits hold it: without lines, and with a count of turns that stands still at its end.
use Rattle.std.specs.Prelude.{ℕ, ◌+◌, ◌-◌, ◌^◌, min, List, [], ℤ}
use Rattle.c_semantics.specs.Meaning.State.{State}

-- a count in 64 bits
abbrev pub counted : ℕ → ℕ
counted k = min k (2 ^ 64 - 1)

abbrev pub start : List ℤ → State
start input = record { frame = []; globals = []; lines = []; input = input; turns = 0 }

abbrev pub one_turn_more : State → State
one_turn_more s = record s { turns = counted (s.turns + 1) }
