-- What the code's command stands for.
use Rattle.std.specs.Prelude.{◌≡◌, ℕ, List, [], ◌∷◌, map, string_bytes, codes}
use Rattle.loopx.specs.Words.{IsBound, AllNumbers}
use Rattle.loopx.specs.declared.command.Command.{Command}
use Rattle.loopx.specs.declared.command.Command.TheVariants.{Translate, Run}

-- the words ask for this command, whose own words spell the input of a run
abbrev pub AsksFor : List (List ℕ) → Command → Type 0
AsksFor words Translate = words ≡ codes "translate" ∷ []
AsksFor words (Run bound numbers) =
    (word : List ℕ) × (words ≡ codes "run" ∷ word ∷ map string_bytes numbers.now) × IsBound word bound × AllNumbers (map string_bytes numbers.now)
