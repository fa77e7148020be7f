use Rattle.std.proofs.Common.{◌≡◌, length, map}
use Rattle.c_lexer.specs.Words.{found_in}
use Rattle.c_lexer.proofs.words.found_in.Given as goal

abbrev pub invariant-loop-table : goal.invariant-loop-table
invariant-loop-table l = found_in (map (λ entry. (entry.0.now, entry.1)) l.table) l.word ≡ found_in (map (λ entry. (entry.0.now, entry.1)) l.initial.table) l.word

abbrev pub decreases-loop-table : goal.decreases-loop-table
decreases-loop-table l = length l.table
