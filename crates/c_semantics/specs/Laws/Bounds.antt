-- What a greater bound on the turns of a loop changes.
use Rattle.std.specs.Prelude.{◌≡◌, ℕ, ◌≤◌, List, ◌++◌, ℤ}
use Rattle.c_tree.specs.Bare.{Program}
use Rattle.c_semantics.specs.Meaning.Programs.{CutOff, outcome, turns_of}

-- the first list begins the second
abbrev pub IsPrefix : List ℤ → List ℤ → Type 0
IsPrefix xs ys = (zs : List ℤ) × (ys ≡ xs ++ zs)

-- an outcome that isn't cut off is the outcome at every greater bound, with the same turns
abbrev pub OutcomeStays : Type 0
OutcomeStays =
    (n m : ℕ) (p : Program) (input : List ℤ) → n ≤ m → ¬ ((outcome n p input).end ≡ CutOff) →
    (outcome m p input ≡ outcome n p input) × (turns_of m p input ≡ turns_of n p input)

-- the lines at a bound begin those at every greater bound
abbrev pub LinesGrow : Type 0
LinesGrow = (n m : ℕ) (p : Program) (input : List ℤ) → n ≤ m → IsPrefix (outcome n p input).lines (outcome m p input).lines
