use Rattle.std.proofs.Common.{◌≡◌, ◌≤◌, ◌+◌}
use Rattle.c_tree.specs.Place.{line_at, column_at}
use Rattle.c_tree.proofs.place.line_col.Given as goal

-- The line and the column of the place that is reached.
abbrev pub invariant-each : goal.invariant-each
invariant-each l = record {
  line : l.line ≡ line_at l.before l.byte-index;
  column : l.column ≡ column_at l.before l.byte-index;
  small : l.column ≤ l.byte-index + 1;
}
