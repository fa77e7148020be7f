-- A place past the text's end has the line and the column of the end.
use Rattle.std.proofs.Common.{◌≡◌, ℕ, List, length, min, refl, ap, ◌∙◌}
use Rattle.std.proofs.lemmas.List.{take_min}
use Rattle.c_tree.specs.Place.{line_at, column_at}

pub line_within : (text : List ℕ) (place n : ℕ) → n ≡ length text → line_at text (min place n) ≡ line_at text place
line_within text place n is = ap (λ k. line_at text (min place k)) is ∙ rw (take_min place text) refl

pub column_within : (text : List ℕ) (place n : ℕ) → n ≡ length text → column_at text (min place n) ≡ column_at text place
column_within text place n is = ap (λ k. column_at text (min place k)) is ∙ rw (take_min place text) refl
