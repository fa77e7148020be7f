-- The line and the column one byte further on.
use Rattle.std.proofs.Common.{◌≡◌, ◌≢◌, ◌∙◌, ℕ, ◌+◌, ◌<◌, List, [], ◌∷◌, Bool, not, if◌then◌else◌, ap, length, take, slice_index, arith}
use Rattle.std.specs.List.{suffix_len, prefix_len}
use Rattle.std.proofs.lemmas.List.{take_more, reverse-append}
use Rattle.std.proofs.lemmas.List.Sums.{count_by_more_yes, count_by_more_no}
use Rattle.std.proofs.lemmas.Bool.{eq-eqb, ne_eqb}
use Rattle.c_tree.specs.Place.{is_line_feed, line_at, column_at}

module _ (text : List ℕ) (place : ℕ) (within : place < length text) where
  pub line_after_feed : slice_index text place ≡ 10 → line_at text (place + 1) ≡ line_at text place + 1
  line_after_feed is = omega (arith, count_by_more_yes is_line_feed text place 0 within (eq-eqb _ _ is))

  pub line_after_other : slice_index text place ≢ 10 → line_at text (place + 1) ≡ line_at text place
  line_after_other other = omega (arith, count_by_more_no is_line_feed text place 0 within (ne_eqb _ _ other))

  abbrev is_other : ℕ → Bool
  is_other byte = not (is_line_feed byte)

  one_more : suffix_len is_other (take (place + 1) text) ≡ (if is_other (slice_index text place) then 1 + suffix_len is_other (take place text) else 0)
  one_more = ap (suffix_len is_other) (take_more text place 0 within) ∙ ap (prefix_len is_other) (reverse-append (take place text) (slice_index text place ∷ []))

  pub column_after_feed : slice_index text place ≡ 10 → column_at text (place + 1) ≡ 1
  column_after_feed is = ap (λ n. 1 + n) (one_more ∙ ap (λ b. if not b then 1 + suffix_len is_other (take place text) else 0) (eq-eqb _ _ is))

  pub column_after_other : slice_index text place ≢ 10 → column_at text (place + 1) ≡ column_at text place + 1
  column_after_other other = omega (arith, one_more ∙ ap (λ b. if not b then 1 + suffix_len is_other (take place text) else 0) (ne_eqb _ _ other))

pub ruleset places = (line_after_feed, line_after_other, column_after_feed, column_after_other)
