use Rattle.std.proofs.Common.{◌↔◌, length, map, string_bytes}
use Rattle.loopx.specs.Words.{AllNumbers}
use Rattle.loopx.proofs.command.all_numbers.Given as goal

abbrev pub invariant-loop-words : goal.invariant-loop-words
invariant-loop-words l = AllNumbers (map string_bytes l.words) ↔ AllNumbers (map string_bytes l.initial.words)

abbrev pub decreases-loop-words : goal.decreases-loop-words
decreases-loop-words l = length l.words
