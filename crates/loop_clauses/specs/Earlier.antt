-- What is known of the clauses that stand before a clause of the same directive: which of those that exclude others are
-- among them.
use Rattle.std.specs.Prelude.{Bool, true, false}
use Rattle.c_tree.specs.Placed.{ClauseKind, sizes, permutation, counts, looprange, full, partial, apply}
use Rattle.loop_clauses.specs.declared.earlier.Earlier.{Earlier}

abbrev pub no_clause : Earlier
no_clause = record { sizes = false; permutation = false; counts = false; range = false; unroll = false }

-- one of those before excludes it
abbrev pub excludes : Earlier → ClauseKind → Bool
excludes s (sizes es) = s.sizes
excludes s (permutation es) = s.permutation
excludes s (counts cs) = s.counts
excludes s (looprange first count) = s.range
excludes s full = s.unroll
excludes s (partial factor) = s.unroll
excludes s (apply m es is) = false

abbrev pub with_clause : ClauseKind → Earlier → Earlier
with_clause (sizes es) s = record s { sizes = true }
with_clause (permutation es) s = record s { permutation = true }
with_clause (counts cs) s = record s { counts = true }
with_clause (looprange first count) s = record s { range = true }
with_clause full s = record s { unroll = true }
with_clause (partial factor) s = record s { unroll = true }
with_clause (apply m es is) s = s
