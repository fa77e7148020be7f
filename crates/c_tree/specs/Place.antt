-- The line and the column of a place in a text. Both count from 1, a line ends with LF, and a column is counted in
-- bytes.
use Rattle.std.specs.Prelude.{ℕ, ◌+◌, ◌==◌, List, Bool, take, count_by, not}
use Rattle.std.specs.List.{suffix_len}

abbrev pub is_line_feed : ℕ → Bool
is_line_feed byte = byte == 10

-- 1 plus the number of LF bytes before the place
abbrev pub line_at : List ℕ → ℕ → ℕ
line_at text place = 1 + count_by is_line_feed (take place text)

-- 1 plus the number of bytes since the last LF before the place, or since the text's start
abbrev pub column_at : List ℕ → ℕ → ℕ
column_at text place = 1 + suffix_len (λ byte. not (is_line_feed byte)) (take place text)
