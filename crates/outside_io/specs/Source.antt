-- What the answer of a read tells.
use Rattle.std.specs.Prelude.{◌≡◌, ℕ, ◌<◌, ◌≤◌, List, [], length, take, ⊤}
use Rattle.outside_io.specs.declared.traits.Got.{Got}
use Rattle.outside_io.specs.declared.traits.Got.TheVariants.{Gave, End, Failed}

-- a number of bytes is one that the buffer has room for
abbrev pub FitsBuffer : Got → List ℕ → Type 0
FitsBuffer (Gave n) buffer = n ≤ length buffer
FitsBuffer End buffer = ⊤
FitsBuffer Failed buffer = ⊤

-- the bytes that the read gave: the first ones of the buffer
abbrev pub given_bytes : Got → List ℕ → List ℕ
given_bytes (Gave n) buffer = take n buffer
given_bytes End buffer = []
given_bytes Failed buffer = []

-- the answer tells the end: `End`, or no byte where the buffer has room
abbrev pub TellsEnd : Got → List ℕ → Type 0
TellsEnd (Gave n) buffer = (n ≡ 0) × (0 < length buffer)
TellsEnd End buffer = ⊤
TellsEnd Failed buffer = ⊥
