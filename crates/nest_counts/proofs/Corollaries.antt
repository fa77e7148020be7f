-- What follows for trees that have the kinds of a part.
use Rattle.std.proofs.Common.{◌≡◌, ap}
use Rattle.nest_counts.specs.HasKinds.{IsLoop, turns}
use Rattle.nest_counts.specs.Laws.{KnownCountsHold, TakenLoopsAreRectangular, DirectivesKeepKinds}
use Rattle.canonical_nests.specs.Kinds.{known_count}
use Rattle.nest_counts.proofs.Ways.{each_both}
use Rattle.nest_counts.proofs.Rectangles.{rectangular}
use Rattle.nest_counts.proofs.Items.{plan_has}

pub known_counts_hold : KnownCountsHold
known_counts_hold ks t has n v within is =
    each_both IsLoop (λ u. turns u ≡ v) n t (has n within).loops ((has n within).known v (ap known_count is))

pub taken_loops_are_rectangular : TakenLoopsAreRectangular
taken_loops_are_rectangular ks t has k n enough apart = rectangular k n ks t has enough apart

pub directives_keep_kinds : DirectivesKeepKinds
directives_keep_kinds = plan_has
