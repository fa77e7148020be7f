-- The lists of words that the program takes.
use Rattle.std.specs.Prelude.{◌≡◌, ℕ, ◌^◌, ◌<◌, ℤ, List, [], ◌∷◌, codes, cond, drop, FitsSigned}
use Rattle.std.specs.Int.{w64}
use Rattle.std.specs.Str.Parse.{IsNumeral, digits_value, signed_digits_value, starts_with_minus}

-- one or more decimal digits, with a value below 2^64
pub record IsBound (word : List ℕ) (n : ℕ) : Type 0 where
  pub digits : IsNumeral 10 word
  pub value : n ≡ digits_value 10 word
  pub fits : n < 2 ^ 64

-- one or more decimal digits, with a `-` before them or without, and a value that 64 bits hold
pub record IsNumber (word : List ℕ) (z : ℤ) : Type 0 where
  pub digits : IsNumeral 10 (cond (starts_with_minus word) (drop 1 word) word)
  pub value : z ≡ signed_digits_value 10 word
  pub fits : FitsSigned w64 z

-- the words spell these numbers, one each
abbrev pub AreNumbers : List (List ℕ) → List ℤ → Type 0
AreNumbers [] [] = Unit {0}
AreNumbers (word ∷ words) (z ∷ zs) = IsNumber word z × AreNumbers words zs
AreNumbers _ _ = ⊥

-- each word spells a number
abbrev pub AllNumbers : List (List ℕ) → Type 0
AllNumbers [] = Unit {0}
AllNumbers (word ∷ words) = ((z : ℤ) × IsNumber word z) × AllNumbers words

-- what the words ask for: the translated text, or a run with a bound on the turns of a loop and with input
pub data Command : Type 0 where
  translate : Command
  run : ℕ → List ℤ → Command

abbrev pub Asks : List (List ℕ) → Command → Type 0
Asks words translate = words ≡ codes "translate" ∷ []
Asks words (run bound numbers) =
    (word : List ℕ) × (rest : List (List ℕ)) × (words ≡ codes "run" ∷ word ∷ rest) × IsBound word bound × AreNumbers rest numbers

-- the words are in no list
abbrev pub AskForNothing : List (List ℕ) → Type 0
AskForNothing words = (command : Command) → Asks words command → ⊥
