use Rattle.std.proofs.Common.{ℤ, List, ◌++◌, length, map, string_bytes}
use Rattle.loopx.specs.Words.{AllNumbers, AreNumbers}
use Rattle.loopx.proofs.command.numbers.Given as goal

-- numbers of the words that are left, behind those that were read, are numbers of all words
abbrev pub invariant-loop-words : goal.invariant-loop-words
invariant-loop-words l = AllNumbers (map string_bytes l.words)
    × ((zs : List ℤ) → AreNumbers (map string_bytes l.words) zs → AreNumbers (map string_bytes l.initial.words) (l.numbers.items ++ zs))

abbrev pub decreases-loop-words : goal.decreases-loop-words
decreases-loop-words l = length l.words
