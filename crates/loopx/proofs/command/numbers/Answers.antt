-- At the end no word is left.
use Rattle.std.proofs.Common.{◌<◌, ℕ, List, [], ◌∷◌, length, map, string_bytes, subst, append-nil, arith}
use Rattle.loopx.specs.Words.{AreNumbers}
use Rattle.loopx.proofs.command.numbers.Goals as goal

no_numbers : {A : Type 0} (f : A → List ℕ) (xs : List A) → length xs < 1 → AreNumbers (map f xs) []
no_numbers f [] low = tt
no_numbers f (x ∷ xs) low = absurd (omega arith)

pub returns : goal.returns
returns c = subst (AreNumbers (map string_bytes c.args.words.now)) (append-nil c.loop-words.numbers.items)
    (c.loop-words.invariant.1 [] (no_numbers string_bytes c.loop-words.words.now c.in_default.len_below))
