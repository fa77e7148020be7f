-- What a taker stands for: lists of bytes, by a test of them.
use Rattle.std.specs.Prelude.{◌≡◌, ℕ, ◌≤◌, List, ◌++◌, length, ◌↔◌}

-- it stands for each list that it stood for, followed by these bytes
abbrev pub Extends : (List ℕ → Type 0) → (List ℕ → Type 0) → List ℕ → Type 0
Extends old new bytes = (before : List ℕ) → old before → new (before ++ bytes)

-- it stands for the lists that it stood for, and for no others
abbrev pub StandsAsBefore : (List ℕ → Type 0) → (List ℕ → Type 0) → Type 0
StandsAsBefore old new = (bytes : List ℕ) → old bytes ↔ new bytes

-- a taker that had taken nothing took these bytes and no others, within a limit
pub record IsHanded (limit : ℕ) (old new : List ℕ → Type 0) (count : ℕ) (bytes : List ℕ) : Type 0 where
  pub within : length bytes ≤ limit
  pub taken : Extends old new bytes
  pub counted : count ≡ length bytes
