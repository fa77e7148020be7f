-- The line feeds of a text, which tell the line and the column of each place.
use Rattle.std.specs.Prelude.{◌≡◌, ℕ, ◌+◌, ◌<◌, ◌≤◌, Bool, ◌&&◌, nat_le, if◌then◌else◌, List, [], ◌∷◌, length, slice_index}
use Rattle.c_tree.specs.Place.{is_line_feed}

-- the places of the LF bytes in bytes of which the first has a place
abbrev pub feed_places : ℕ → List ℕ → List ℕ
feed_places at [] = []
feed_places at (b ∷ bs) = if is_line_feed b then at ∷ feed_places (at + 1) bs else feed_places (at + 1) bs

-- how many bytes a map was fed, the places of the LF bytes in them, and for how many more of them it has room
pub record Lines : Type 0 where
  pub count : ℕ
  pub feeds : List ℕ
  pub spare : ℕ

-- the map was fed these bytes
pub record MapsLines (l : Lines) (bytes : List ℕ) : Type 0 where
  pub count : l.count ≡ length bytes
  pub feeds : l.feeds ≡ feed_places 0 bytes

-- the places rise, from a least one on, and stay below a number of bytes
abbrev pub rises : ℕ → List ℕ → ℕ → Bool
rises least [] count = nat_le least count
rises least (p ∷ ps) count = nat_le least p && rises (p + 1) ps count

-- the first k of the places, and no others, are below one
abbrev pub Splits : List ℕ → ℕ → ℕ → Type 0
Splits places place k = (k ≤ length places) × ((i : ℕ) → i < k → slice_index places i < place) × ((i : ℕ) → k ≤ i → i < length places → place ≤ slice_index places i)
