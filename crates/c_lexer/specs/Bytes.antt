-- Classes of bytes, and line joins.
use Rattle.std.specs.Prelude.{◌≡◌, ℕ, Bool, ◌||◌, ◌==◌, List, ◌∷◌}
use Rattle.std.specs.Char.{is_ascii_alphabetic, is_ascii_alphanumeric}

-- white space within a line (C11 6.4): space, horizontal tab, vertical tab, form feed, carriage return
abbrev pub is_blank : ℕ → Bool
is_blank b = b == 32 || b == 9 || b == 11 || b == 12 || b == 13

-- the line feed, which ends a line
abbrev pub is_feed : ℕ → Bool
is_feed b = b == 10

-- a letter or `_`, with which a word begins (C11 6.4.2.1)
abbrev pub begins_word : ℕ → Bool
begins_word b = is_ascii_alphabetic b || b == 95

-- a letter, a digit or `_`
abbrev pub goes_in_word : ℕ → Bool
goes_in_word b = is_ascii_alphanumeric b || b == 95

-- A join, a backslash directly before a line end, deleted (C11 5.1.1.2, phase 2): the first bytes are one join, before the rest.
-- A line end is LF or CR LF.
pub data Join : List ℕ → List ℕ → Type 0 where
  before_feed : {a b : ℕ} {bs : List ℕ} → a ≡ 92 → b ≡ 10 → Join (a ∷ b ∷ bs) bs
  before_return : {a b c : ℕ} {bs : List ℕ} → a ≡ 92 → b ≡ 13 → c ≡ 10 → Join (a ∷ b ∷ c ∷ bs) bs

-- no join stands first
abbrev pub NoJoin : List ℕ → Type 0
NoJoin bs = (cs : List ℕ) → Join bs cs → ⊥

-- a run of joins: all that follow each other directly, at least one
pub data Joins : List ℕ → List ℕ → Type 0 where
  last : {bs cs : List ℕ} → Join bs cs → NoJoin cs → Joins bs cs
  more : {bs cs ds : List ℕ} → Join bs cs → Joins cs ds → Joins bs ds
