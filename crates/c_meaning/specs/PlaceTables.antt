-- What a table of places says of a number.
use Rattle.std.specs.Prelude.{ℕ, slice_index_or, Option, None}
use Rattle.c_meaning.specs.declared.place_table.PlaceTable.{PlaceTable}

abbrev pub place_at : PlaceTable → ℕ → Option ℕ
place_at t n = slice_index_or t.places.items n None
