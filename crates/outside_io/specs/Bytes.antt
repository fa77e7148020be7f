-- What a call does to the bytes that a source has left and that a sink holds, where those are told.
use Rattle.std.specs.Prelude.{◌≡◌, ℕ, List, [], ◌++◌, length, ⊤, Option, None, Some}
use Rattle.std.specs.Io.KnownBytes.{Consumes, IsAtEnd}

-- a source is at its end, and what it told before the call was taken whole
abbrev pub TakesAll : Option (List ℕ) → Option (List ℕ) → Type 0
TakesAll None new = IsAtEnd new
TakesAll (Some text) new = new ≡ Some []

-- the bytes that a source tells are n at least, and lose the first n
abbrev pub LosesFirst : Option (List ℕ) → Option (List ℕ) → ℕ → Type 0
LosesFirst old new n = (bytes : List ℕ) × (length bytes ≡ n) × Consumes old new bytes

-- some bytes begin with these
abbrev pub IsPrefix : List ℕ → List ℕ → Type 0
IsPrefix prefix bytes = (rest : List ℕ) × (bytes ≡ prefix ++ rest)

-- what a sink tells after the call it told before it, and these bytes have come behind that
abbrev pub Gains : Option (List ℕ) → Option (List ℕ) → List ℕ → Type 0
Gains old None bytes = ⊤
Gains None (Some ys) bytes = ⊥
Gains (Some xs) (Some ys) bytes = ys ≡ xs ++ bytes

-- likewise, and what has come is a first part of these bytes
abbrev pub GainsPrefix : Option (List ℕ) → Option (List ℕ) → List ℕ → Type 0
GainsPrefix old new bytes = (taken : List ℕ) × IsPrefix taken bytes × Gains old new taken
