-- What the answer of a write tells.
use Rattle.std.specs.Prelude.{ℕ, ◌<◌, ◌≤◌, List, [], length, take, ⊤}
use Rattle.outside_io.specs.declared.traits.Put.{Put}
use Rattle.outside_io.specs.declared.traits.Put.TheVariants.{Took, Failed}

-- a number of bytes is one that the piece has, and above 0 where the piece has any
abbrev pub FitsPiece : Put → List ℕ → Type 0
FitsPiece (Took n) piece = (n ≤ length piece) × (0 < length piece → 0 < n)
FitsPiece Failed piece = ⊤

-- the bytes that the write took: the first ones of the piece
abbrev pub taken_bytes : Put → List ℕ → List ℕ
taken_bytes (Took n) piece = take n piece
taken_bytes Failed piece = []
