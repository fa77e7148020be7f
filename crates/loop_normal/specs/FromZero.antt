-- A Gen whose first loop is brought to begin at 0, with the names that are drawn for it.
use Rattle.std.specs.Prelude.{if◌then◌else◌}
use Rattle.loop_normal.specs.Gens.{Gen}
use Rattle.loop_normal.specs.Templates.{rebased, on_first, begins_at_zero}
use Rattle.loop_normal.specs.DrawnNames.{FreshNames, drawn, after_draws}

abbrev pub from_zero : FreshNames → Gen → Gen
from_zero f g =
    if begins_at_zero g.parts then g
    else record { front = g.front; parts = on_first (rebased (drawn f) (drawn (after_draws 1 f)) (drawn (after_draws 2 f))) g.parts }

-- no name is drawn where it begins there
abbrev pub after_from_zero : FreshNames → Gen → FreshNames
after_from_zero f g = if begins_at_zero g.parts then f else after_draws 3 f
