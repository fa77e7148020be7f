use Rattle.std.proofs.Common.{◌≡◌, ◌+◌, ◌-◌, ◌≤◌, ◌++◌, drop, vec_len}
use Rattle.std.specs.Prelude.{count_by, vec_capacity}
use Rattle.c_tree.specs.Place.{is_line_feed}
use Rattle.c_lexer.specs.Lines.{feed_places}
use Rattle.c_lexer.proofs.line_map.push_places.Given as goal

abbrev pub invariant-loop-i : goal.invariant-loop-i
invariant-loop-i l = record {
  items : l.feeds.items ++ feed_places (l.at + l.i) (drop l.i l.piece) ≡ l.fn.feeds.items ++ feed_places l.at l.piece;
  room : vec_len l.feeds + count_by is_line_feed (drop l.i l.piece) ≤ vec_capacity l.feeds;
  spare : vec_capacity l.fn.feeds - vec_len l.fn.feeds + count_by is_line_feed (drop l.i l.piece) ≤ vec_capacity l.feeds - vec_len l.feeds + count_by is_line_feed l.piece;
}
