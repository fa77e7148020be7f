use Rattle.std.proofs.Common.{◌≡◌}
use Rattle.loop_normal.specs.TakenNames.{taken_names}
use Rattle.loop_normal.proofs.source_names.in_table.Given as goal

-- The table has the names so far.
abbrev pub invariant-each : goal.invariant-each
invariant-each l = l.taken.keys ≡ taken_names l.yielded
