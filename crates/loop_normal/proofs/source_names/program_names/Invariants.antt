use Rattle.std.proofs.Common.{◌≡◌, ◌++◌, drop, map}
use Rattle.c_tree.specs.BareOf.{bare_top}
use Rattle.loop_normal.specs.SourceNames.{program_names}
use Rattle.loop_normal.proofs.source_names.program_names.Given as goal

-- What was gathered, and what is left.
abbrev pub invariant-each : goal.invariant-each
invariant-each l = l.names.items ++ program_names (map bare_top (drop l.item-index l.items)) ≡ program_names (map bare_top l.items)
